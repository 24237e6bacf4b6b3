-- Laws of the fresh tree: a node is made of the majors and counts of its own pages and holds the tags of its children, and a path is
-- renewed to that of a tree which differs on its page alone. Assumes nothing.
use mathlib.Core.Path.{◌≡◌, refl, sym, ap, ap₂, ◌∙◌}
use mathlib.Core.Bool.{Bool, cond}
use mathlib.Core.List.{List, ◌∷◌, ◌++◌, append_assoc}
use Prim.Native.Nat.{ℕ, zero, suc, ◌+◌, ◌*◌, ◌/◌, ◌%◌, ◌^◌, ◌≤◌, ◌<◌}
use native.Mathlib.Nat.{le_refl}
use native.Mathlib.Omega.{arith}
use borrow.Author.Tests.{eq-eqb, ne_eqb}
use lib.Dec.{lit<}
use lib.ListN.{length, get_or, set, take, drop}
use lib.Seq.{take-append-add, drop-append-add, take_at, drop_at}
use Rattle.words.specs.Bytes.{from_le, to_le, part, put}
use Rattle.words.proofs.Digits.{Below, below-nil, below-cons, length_digits, number-exact}
use Rattle.memory_map.specs.Map.{on_path}
use Rattle.slot_map.specs.Slots.{slot_of}
use Rattle.counter.specs.Counter.{major, minors, minor, counter_block, with_minor}
use Rattle.counter.proofs.Laws.{major-counter_block, minors-counter_block}
use Rattle.tag.proofs.Tags.{node_tag-lt}
use Rattle.cache.specs.Cache.{content}
use Rattle.calls.specs.Format.{counts_from, fresh_node}
use Rattle.history_laws.specs.History.{changed}
use Rattle.calls.specs.Path.{child_tag, renewed, tags_from}
use Rattle.memory_map.proofs.Laws.{path-up, path-bottom}
use Rattle.call_laws.proofs.Fresh.{fresh-length, fresh-bytes}
use Rattle.call_laws.proofs.Tags.{tags-agree}
use Rattle.history_laws.proofs.Setting.{Setting, Tree, Small, Agree, raised, tree_node, tag_of}

-- ---- a function changed at one number

pub changed-same : {A : Type 0} (f : ℕ → A) (n : ℕ) (x : A) → changed f n x n ≡ x
unfolding changed
changed-same f n x = ap (λ (b : Bool). cond b x (f n)) (eq-eqb n n refl)

pub changed-other : {A : Type 0} (f : ℕ → A) (n : ℕ) (x : A) (k : ℕ) → (k ≡ n → ⊥) → changed f n x k ≡ f k
unfolding changed
changed-other f n x k e = ap (λ (b : Bool). cond b x (f k)) (ne_eqb k n e)

pub raised-same : (T : Tree) (n : ℕ) → (raised T n).count n ≡ suc (T.count n)
raised-same T n = changed-same T.count n (suc (T.count n))

pub raised-other : (T : Tree) (n x : ℕ) → (x ≡ n → ⊥) → T.count x ≡ (raised T n).count x
raised-other T n x e = sym (changed-other T.count n (suc (T.count n)) x e)

-- ---- lists of counts

pub length-counts : (f : ℕ → ℕ) (n k : ℕ) → length (counts_from f n k) ≡ k
unfolding counts_from
length-counts f n zero = refl
length-counts f n (suc k) = ap suc (length-counts f (suc n) k)

pub counts-agree : (f g : ℕ → ℕ) (n k : ℕ) → ((x : ℕ) → n ≤ x → x < n + k → f x ≡ g x) → counts_from f n k ≡ counts_from g n k
unfolding counts_from
counts-agree f g n zero e = refl
counts-agree f g n (suc k) e =
    ap₂ (λ (a : ℕ) (b : List ℕ). a ∷ b) (e n (le_refl n) (omega arith))
    (counts-agree f g (suc n) k (λ x p q. e x (omega arith) (omega arith)))

-- one count replaced
counts-set : (f g : ℕ → ℕ) (n k j : ℕ) → ((x : ℕ) → (x ≡ n + j → ⊥) → f x ≡ g x) → set (counts_from f n k) j (g (n + j)) ≡ counts_from g n k
unfolding counts_from
counts-set f g n zero j e = refl
counts-set f g n (suc k) zero e =
    ap₂ (λ (a : ℕ) (b : List ℕ). a ∷ b) (ap g (omega arith)) (counts-agree f g (suc n) k (λ x p q. e x (λ z. omega arith)))
counts-set f g n (suc k) (suc j) e =
    let next : n + suc j ≡ suc n + j = omega arith in
    ap₂ (λ (a : ℕ) (b : List ℕ). a ∷ b) (e n (λ z. omega arith))
    (ap (λ (x : ℕ). set (counts_from f (suc n) k) j (g x)) next ∙ counts-set f g (suc n) k j (λ x p. e x (λ z. p (omega arith))))

-- ---- lists of tags

-- a replacement past a first list, and of a first list
put-past : (xs ys : List ℕ) (at : ℕ) (bs : List ℕ) → put (xs ++ ys) (length xs + at) bs ≡ xs ++ put ys at bs
put-past xs ys at bs =
    let seam : length xs + at + length bs ≡ length xs + (at + length bs) = omega arith in
    ap₂ (λ (a b : List ℕ). a ++ (bs ++ b)) (take-append-add xs ys at)
    (ap (λ (n : ℕ). drop n (xs ++ ys)) seam ∙ drop-append-add xs ys (at + length bs))
    ∙ append_assoc xs (take at ys) _

put_front : (xs ys bs : List ℕ) → length bs ≡ length xs → put (xs ++ ys) 0 bs ≡ bs ++ ys
put_front xs ys bs e = ap (λ (r : List ℕ). bs ++ r) (drop_at xs ys (0 + length bs) (omega arith))

module _ (S : Setting) (l : ℕ) where
  -- the tag of node i, which has the content f i, and those of n nodes from i on
  abbrev tag : (ℕ → List ℕ) → ℕ → List ℕ
  tag f i = to_le 8 (tag_of S (f i) l i)

  abbrev tags : (ℕ → List ℕ) → ℕ → ℕ → List ℕ
  tags f i n = tags_from S.keys l f i n

  tag8 : (f : ℕ → List ℕ) (i : ℕ) → length (tag f i) ≡ 8
  tag8 f i = length_digits 256 8 (tag_of S (f i) l i)

  -- the tag at place k
  tags-at : (f : ℕ → List ℕ) (i n k : ℕ) → k < n → part (tags f i n) (8 * k) 8 ≡ tag f (i + k)
  unfolding tags_from
  tags-at f i zero k p = absurd (omega arith)
  tags-at f i (suc n) zero p = take_at (tag f i) (tags f (suc i) n) 8 (tag8 f i) ∙ ap (tag f) (omega arith)
  tags-at f i (suc n) (suc k) p =
      let at : 8 * suc k ≡ length (tag f i) + 8 * k = omega (arith, tag8 f i) in
      let next : suc i + k ≡ i + suc k = omega arith in
      ap (λ (j : ℕ). part (tag f i ++ tags f (suc i) n) j 8) at
      ∙ ap (take 8) (drop-append-add (tag f i) (tags f (suc i) n) (8 * k)) ∙ tags-at f (suc i) n k (omega arith) ∙ ap (tag f) next

  -- one tag replaced
  tags-put : (f g : ℕ → List ℕ) (i n k : ℕ) → k < n → ((j : ℕ) → (j ≡ i + k → ⊥) → f j ≡ g j)
      → put (tags f i n) (8 * k) (tag g (i + k)) ≡ tags g i n
  unfolding tags_from
  tags-put f g i zero k p e = absurd (omega arith)
  tags-put f g i (suc n) zero p e =
      let here : i + 0 ≡ i = omega arith in
      put_front (tag f i) (tags f (suc i) n) (tag g (i + 0)) (tag8 g (i + 0) ∙ sym (tag8 f i))
      ∙ ap₂ (λ (j : ℕ) (r : List ℕ). tag g j ++ r) here (tags-agree S.keys l f g (suc i) n (λ j q r. e j (λ z. omega arith)))
  tags-put f g i (suc n) (suc k) p e =
      let at : 8 * suc k ≡ length (tag f i) + 8 * k = omega (arith, tag8 f i) in
      let next : i + suc k ≡ suc i + k = omega arith in
      ap (λ (a : ℕ). put (tag f i ++ tags f (suc i) n) a (tag g (i + suc k))) at
      ∙ put-past (tag f i) (tags f (suc i) n) (8 * k) (tag g (i + suc k))
      ∙ ap₂ (λ (b r : List ℕ). to_le 8 (tag_of S b l i) ++ r) (e i (λ z. omega arith))
      (ap (λ (j : ℕ). put (tags f (suc i) n) (8 * k) (tag g j)) next
      ∙ tags-put f g (suc i) n k (omega arith) (λ j q. e j (λ z. q (omega arith))))

-- ---- nodes

module _ (S : Setting) where
  open S use {keys, keyed}

  pub tree-length : (T : Tree) (l i : ℕ) → length (tree_node S T l i) ≡ 64
  tree-length T l i = fresh-length keys T.major T.count l i

  pub tree-bytes : (T : Tree) (l i : ℕ) → Below 256 (tree_node S T l i)
  tree-bytes T l i = fresh-bytes keys T.major T.count l i

  pub tree-tag : (T : Tree) (l i : ℕ) → tag_of S (tree_node S T l i) l i < 2 ^ 64
  tree-tag T l i = node_tag-lt keys (tree_node S T l i) l i keyed (tree-bytes T l i)

  -- trees that agree on the pages below a node have the same node
  pub fresh-agree : (T U : Tree) (l i : ℕ) → ((p : ℕ) → on_path p l ≡ i → Agree T U p) → tree_node S T l i ≡ tree_node S U l i
  unfolding fresh_node
  fresh-agree T U zero i e =
      let page = e i (path-bottom i) in
      ap₂ counter_block page.major (counts-agree T.count U.count (64 * i) 64 (λ n p q. page.count n (omega arith)))
  fresh-agree T U (suc l) i e =
      tags-agree keys l (tree_node S T l) (tree_node S U l) (8 * i) 8
      (λ j p q. fresh-agree T U l j (λ x r. e x (path-up x l ∙ ap (λ (k : ℕ). k / 8) r ∙ omega arith)))

  -- trees that agree on every page but p have the same nodes off its path
  pub off-path : (T U : Tree) (p : ℕ) → ((q : ℕ) → (q ≡ p → ⊥) → Agree T U q) → (l i : ℕ) → (i ≡ on_path p l → ⊥)
      → tree_node S T l i ≡ tree_node S U l i
  off-path T U p same l i e = fresh-agree T U l i (λ q r. same q (λ z. e (sym r ∙ ap (λ (y : ℕ). on_path y l) z)))

  -- a node holds the tags of its children
  pub child-fresh : (T : Tree) (l i : ℕ) → child_tag (tree_node S T (suc l) (i / 8)) i ≡ tag_of S (tree_node S T l i) l i
  unfolding fresh_node
  child-fresh T l i =
      let here : 8 * (i / 8) + i % 8 ≡ i = omega arith in
      ap from_le (tags-at S l (tree_node S T l) (8 * (i / 8)) 8 (i % 8) (omega arith))
      ∙ ap (λ (j : ℕ). from_le (to_le 8 (tag_of S (tree_node S T l j) l j))) here
      ∙ number-exact 256 8 _ (lit< tt) (tree-tag T l i)

-- ---- counter blocks

counts-below : (f : ℕ → ℕ) (n k : ℕ) → ((x : ℕ) → f x < 128) → Below 128 (counts_from f n k)
unfolding counts_from
counts-below f n zero e = below-nil (lit< tt)
counts-below f n (suc k) e = below-cons (e n) (counts-below f (suc n) k e)

pub counts-at : (f : ℕ → ℕ) (n k j : ℕ) → j < k → get_or (counts_from f n k) j 0 ≡ f (n + j)
unfolding counts_from
counts-at f n zero j p = absurd (omega arith)
counts-at f n (suc k) zero p = ap f (omega arith)
counts-at f n (suc k) (suc j) p = let next : suc n + j ≡ n + suc j = omega arith in counts-at f (suc n) k j (omega arith) ∙ ap f next

module _ (S : Setting) {T : Tree} (small : Small T) (p : ℕ) where
  open T use {major as majors, count}

  pub fresh-minors : minors (tree_node S T 0 p) ≡ counts_from count (64 * p) 64
  unfolding fresh_node
  fresh-minors =
      minors-counter_block (majors p) (counts_from count (64 * p) 64) (length-counts count (64 * p) 64)
      (counts-below count (64 * p) 64 small.minor)

  pub fresh-major : major (tree_node S T 0 p) ≡ majors p
  unfolding fresh_node
  fresh-major = major-counter_block (majors p) (counts_from count (64 * p) 64) (small.major p)

  -- a block has the counts of its lines as minors
  pub fresh-minor : (j : ℕ) → j < 64 → minor (tree_node S T 0 p) j ≡ count (64 * p + j)
  fresh-minor j q = ap (λ (ms : List ℕ). get_or ms j 0) fresh-minors ∙ counts-at count (64 * p) 64 j q

  -- and one with another minor is the block of other counts
  pub fresh-with : (U : Tree) (j : ℕ) → majors p ≡ U.major p → ((x : ℕ) → (x ≡ 64 * p + j → ⊥) → count x ≡ U.count x)
      → with_minor (tree_node S T 0 p) j (U.count (64 * p + j)) ≡ tree_node S U 0 p
  unfolding with_minor fresh_node
  fresh-with U j same e =
      ap₂ (λ (m : ℕ) (ms : List ℕ). counter_block m (set ms j (U.count (64 * p + j)))) fresh-major fresh-minors
      ∙ ap₂ counter_block same (counts-set count U.count (64 * p) 64 j e)

-- ---- a path renewed

-- the cache c has the path of page p in the tree T, and the tree U differs from it on that page alone
pub record Path (S : Setting) (T U : Tree) (p : ℕ) (c : List ℕ) : Type 0 where
  pub fresh : (l : ℕ) → l ≤ S.h → content c (slot_of l (on_path p l)) ≡ tree_node S T l (on_path p l)
  pub same : (q : ℕ) → (q ≡ p → ⊥) → Agree T U q

-- the path is then renewed to that of U
module _ {S : Setting} {T U : Tree} {p : ℕ} {c : List ℕ} (path : Path S T U p c) where
  open S use {keys, h}

  -- one level further up
  above : (l i u : ℕ) → 8 * u + i % 8 ≡ i → ((j : ℕ) → (j ≡ i → ⊥) → tree_node S T l j ≡ tree_node S U l j)
      → put (tree_node S T (suc l) u) (8 * (i % 8)) (to_le 8 (tag_of S (tree_node S U l i) l i)) ≡ tree_node S U (suc l) u
  unfolding fresh_node
  above l i u split apart =
      ap (λ (k : ℕ). put (tree_node S T (suc l) u) (8 * (i % 8)) (to_le 8 (tag_of S (tree_node S U l k) l k))) (sym split)
      ∙ tags-put S l (tree_node S T l) (tree_node S U l) (8 * u) 8 (i % 8) (omega arith) (λ j d. apart j (λ z. d (z ∙ sym split)))

  pub renewed-fresh : (l : ℕ) → l ≤ h → renewed keys c p (tree_node S U 0 p) l ≡ tree_node S U l (on_path p l)
  unfolding renewed
  renewed-fresh zero q = ap (tree_node S U 0) (sym (path-bottom p))
  renewed-fresh (suc l) q =
      ap₂ (λ (s t : List ℕ). put s (8 * (on_path p l % 8)) (to_le 8 (tag_of S t l (on_path p l)))) (path.fresh (suc l) q)
      (renewed-fresh l (omega arith))
      ∙ above l (on_path p l) (on_path p (suc l)) (omega (arith, path-up p l)) (off-path S T U p path.same l)
