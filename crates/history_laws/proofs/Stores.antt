-- What one stored cell leaves, and that an array stays what recovery asks for: under the cell of a node as the fresh tree has it, which is
-- what an eviction and a stop-loss store, and under the shadow cell of a loaded node. Assumes nothing.
use mathlib.Core.Path.{◌≡◌, refl, sym, ap, ap₂, ◌∙◌, subst}
use mathlib.Core.Logic.{◌⊎◌, inl, inr}
use mathlib.Core.Bool.{true}
use mathlib.Core.List.{List, ◌++◌}
use Prim.Native.Nat.{ℕ, suc, ◌+◌, ◌*◌, ◌^◌, ◌≤◌, ◌<◌, zero-le}
use native.Mathlib.Nat.{le_refl}
use native.Mathlib.Omega.{arith}
use lib.Dec.{lit<}
use lib.ListN.{length, replicate, take, length-append}
use lib.Seq.{take_at, drop_at, take_all}
use Rattle.words.specs.Bytes.{from_le, to_le, part, put}
use Rattle.words.proofs.Digits.{length_digits, number-exact}
use Rattle.words.proofs.Order.{lt-eq-gt, eq-or-not}
use Rattle.words.proofs.Parts.{length-put}
use Rattle.words.proofs.Puts.{part-put-in, part-put-before, part-put-after}
use Rattle.memory_map.specs.Map.{pages, lines, nodes, slots, array_length, cell_of, InMap, Item}
use Rattle.memory_map.specs.Map.Item.{line, node, shadow}
use Rattle.memory_map.proofs.Laws.{cell-within, cell-injective, nodes-bottom}
use Rattle.slot_map.specs.Slots.{slot_of, level_of, belongs}
use Rattle.slot_map.proofs.Laws.{slot-within, level-slot, node-belongs}
use Rattle.counter.specs.Counter.{major, minor, lag}
use Rattle.cache.specs.Cache.{cell_bytes, cell_content, shadow_owner, top_slot}
use Rattle.cache.proofs.Laws.{owned-same}
use Rattle.history_laws.proofs.Setting.{Setting, Tree, tree_node, node_in, Opening}
use Rattle.history_laws.proofs.Tree.{tree-length, fresh-major, fresh-minor}
use Rattle.history_laws.proofs.Durable.{Spare, Durable}

-- ---- items apart

unfoldable pub kind : Item → ℕ
kind (line n) = 0
kind (node l i) = 1
kind (shadow s) = 2

unfoldable pub first : Item → ℕ
first (line n) = n
first (node l i) = l
first (shadow s) = s

unfoldable pub second : Item → ℕ
second (line n) = 0
second (node l i) = i
second (shadow s) = 0

apart : (x y : Item) → (kind x ≡ kind y → ⊥) → x ≡ y → ⊥
apart x y e q = e (ap kind q)

in-node : (h l i : ℕ) → l ≤ h → i < nodes h l → InMap h (node l i)
unfolding InMap
in-node h l i p q = (p, q)

in-shadow : (h s : ℕ) → s < slots h → InMap h (shadow s)
unfolding InMap
in-shadow h s p = p

pub in-line : (h n : ℕ) → n < lines h → InMap h (line n)
unfolding InMap
in-line h n p = p

pub page-in : (h p : ℕ) → p < pages h → p < nodes h 0
page-in h p q = omega (arith, nodes-bottom h)

pub line-cell : (h n : ℕ) → cell_of h (line n) ≡ n
unfolding cell_of
line-cell h n = refl

-- ---- one cell stored

-- 72 bytes for the cell of an item
pub record Put (h : ℕ) (a : List ℕ) (x : Item) (bs : List ℕ) : Type 0 where
  pub whole : length a ≡ array_length h
  pub inside : InMap h x
  pub size : length bs ≡ 72

module _ {h : ℕ} {a : List ℕ} {x : Item} {bs : List ℕ} (w : Put h a x bs) where
  open w use {whole, inside, size}

  abbrev number : ℕ
  number = cell_of h x

  abbrev after : List ℕ
  after = put a (72 * number) bs

  room : 72 * number + 72 ≤ length a
  unfolding array_length
  room = omega (arith, whole, cell-within h x inside)

  pub length-after : length after ≡ length a
  length-after = length-put a (72 * number) bs (omega (arith, room, size))

  pub same-part : (m : ℕ) → m ≤ 72 → part after (72 * number) m ≡ take m bs
  same-part m p =
      let start : 72 * number ≡ 72 * number + 0 = omega arith in
      ap (λ (k : ℕ). part after k m) start ∙ part-put-in a (72 * number) bs (omega (arith, room, size)) 0 m (omega (arith, size))

  part-other : (n k m : ℕ) → (n ≡ number → ⊥) → k + m ≤ 72 → part after (72 * n + k) m ≡ part a (72 * n + k) m
  part-other n k m e p = go (lt-eq-gt n number)
    where
      go : (n < number) ⊎ ((n ≡ number) ⊎ (number < n)) → part after (72 * n + k) m ≡ part a (72 * n + k) m
      go (inl q) = part-put-before a (72 * number) bs (omega (arith, room, size)) (72 * n + k) m (omega arith)
      go (inr (inl q)) = absurd (e q)
      go (inr (inr q)) = part-put-after a (72 * number) bs (omega (arith, room, size)) (72 * n + k) m (omega (arith, size))

  -- any other cell of the map
  module _ (y : Item) (there : InMap h y) (e : y ≡ x → ⊥) where
    differ : cell_of h y ≡ number → ⊥
    differ q = e (cell-injective h y x there inside q)

    other-part : (m : ℕ) → m ≤ 72 → part after (72 * cell_of h y) m ≡ part a (72 * cell_of h y) m
    other-part m p =
        let start : 72 * cell_of h y ≡ 72 * cell_of h y + 0 = omega arith in
        ap (λ (k : ℕ). part after k m) start ∙ part-other (cell_of h y) 0 m differ (omega arith) ∙ ap (λ (k : ℕ). part a k m) (sym start)

  line-apart : (n : ℕ) → n < lines h → (line n ≡ x → ⊥) → part after (72 * n) 72 ≡ part a (72 * n) 72
  line-apart n p e =
      subst (λ (k : ℕ). part after (72 * k) 72 ≡ part a (72 * k) 72) (line-cell h n) (other-part (line n) (in-line h n p) e 72 (le_refl 72))

  pub node-apart : (k j : ℕ) → k ≤ h → j < nodes h k → (node k j ≡ x → ⊥)
      → cell_content after (cell_of h (node k j)) ≡ cell_content a (cell_of h (node k j))
  unfolding cell_content
  node-apart k j p q e = other-part (node k j) (in-node h k j p q) e 64 (omega arith)

  pub shadow-apart : (s : ℕ) → s < slots h → (shadow s ≡ x → ⊥) → shadow_owner h after s ≡ shadow_owner h a s
  unfolding shadow_owner
  shadow-apart s p e = ap from_le (other-part (shadow s) (in-shadow h s p) e 8 (omega arith))

  -- items of another kind: lines' cells, nodes, shadow cells
  pub lines-apart : (kind x ≡ 0 → ⊥) → (n : ℕ) → n < lines h → part after (72 * n) 72 ≡ part a (72 * n) 72
  unfolding kind
  lines-apart e n p = line-apart n p (apart (line n) x (λ q. e (sym q)))

  pub nodes-apart : (kind x ≡ 1 → ⊥) → (k j : ℕ) → k ≤ h → j < nodes h k
      → cell_content after (cell_of h (node k j)) ≡ cell_content a (cell_of h (node k j))
  unfolding kind
  nodes-apart e k j p q = node-apart k j p q (apart (node k j) x (λ z. e (sym z)))

  pub shadows-apart : (kind x ≡ 2 → ⊥) → (s : ℕ) → s < slots h → shadow_owner h after s ≡ shadow_owner h a s
  unfolding kind
  shadows-apart e s p = shadow-apart s p (apart (shadow s) x (λ z. e (sym z)))

  -- spare bytes stay zero under a cell whose own are
  pub spare-put : ((y : Item) → InMap h y → Spare y (cell_bytes a (cell_of h y))) → Spare x bs
      → (y : Item) → InMap h y → Spare y (cell_bytes after (cell_of h y))
  spare-put old new y there = go (eq-or-not (cell_of h y) number)
    where
      go : (cell_of h y ≡ number) ⊎ (cell_of h y ≡ number → ⊥) → Spare y (cell_bytes after (cell_of h y))
      go (inl e) =
          subst (λ (z : Item). Spare z (cell_bytes after (cell_of h z))) (sym (cell-injective h y x there inside e))
          (subst (Spare x) (sym (same-part 72 (le_refl 72) ∙ take_all 72 bs (omega (arith, size)))) new)
      go (inr e) = subst (Spare y) (sym (other-part y there (λ z. e (ap (cell_of h) z)) 72 (le_refl 72))) (old y there)

-- ---- a data cell stored

module _ {h : ℕ} {a : List ℕ} {n : ℕ} {bs : List ℕ} (w : Put h a (line n) bs) where
  pub row_same : part (put a (72 * cell_of h (line n)) bs) (72 * n) 72 ≡ bs
  row_same =
      subst (λ (k : ℕ). part (put a (72 * cell_of h (line n)) bs) (72 * k) 72 ≡ bs) (line-cell h n)
      (same-part w 72 (le_refl 72) ∙ take_all 72 bs (omega (arith, w.size)))

  pub row_other : (x : ℕ) → x < lines h → (x ≡ n → ⊥) → part (put a (72 * cell_of h (line n)) bs) (72 * x) 72 ≡ part a (72 * x) 72
  unfolding first
  row_other x q e = line-apart w x q (λ z. e (ap first z))

-- ---- a node of the fresh tree stored

abbrev pub node_bytes : Setting → Tree → ℕ → ℕ → List ℕ
node_bytes S T l i = tree_node S T l i ++ replicate 8 0

pub node-put : (S : Setting) (T : Tree) (a : List ℕ) (l i : ℕ) → length a ≡ array_length S.h → l ≤ S.h → i < nodes S.h l
    → Put S.h a (node l i) (node_bytes S T l i)
node-put S T a l i whole p q =
    record {
      whole = whole;
      inside = in-node S.h l i p q;
      size = length-append (tree_node S T l i) (replicate 8 0) ∙ ap (λ (n : ℕ). n + 8) (tree-length S T l i);
    }

pub node-spare : (S : Setting) (T : Tree) (l i : ℕ) → Spare (node l i) (node_bytes S T l i)
unfolding Spare
node-spare S T l i = drop_at (tree_node S T l i) (replicate 8 0) 64 (tree-length S T l i)

module _ {S : Setting} {T : Tree} {o : Opening} {a : List ℕ} (m : Durable S T o a) where
  open S use {keys, h}
  open T use {count}

  module _ (l i : ℕ) (low : l ≤ h) (inside : i < nodes h l) where
    abbrev pub with-node : List ℕ
    with-node = put a (72 * cell_of h (node l i)) (node_bytes S T l i)

    w : Put h a (node l i) (node_bytes S T l i)
    w = node-put S T a l i m.whole low inside

    pub node-same : node_in S with-node l i ≡ tree_node S T l i
    unfolding cell_content
    node-same = same-part w 64 (omega arith) ∙ take_at (tree_node S T l i) (replicate 8 0) 64 (tree-length S T l i)

    -- the cell of a node: this one's is fresh, another's as before
    node-cases : (P : List ℕ → Type 0) (k j : ℕ) → k ≤ h → j < nodes h k → P (tree_node S T k j) → P (node_in S a k j)
        → P (node_in S with-node k j)
    unfolding first second
    node-cases P k j p q new old = go (eq-or-not k l) (eq-or-not j i)
      where
        kept : (node k j ≡ node l i → ⊥) → P (node_in S with-node k j)
        kept z = subst P (sym (node-apart w k j p q z)) old

        go : (k ≡ l) ⊎ (k ≡ l → ⊥) → (j ≡ i) ⊎ (j ≡ i → ⊥) → P (node_in S with-node k j)
        go (inl d) (inl e) =
            subst P (sym (ap₂ (λ (x y : ℕ). node_in S with-node x y) d e ∙ node-same
            ∙ sym (ap₂ (λ (x y : ℕ). tree_node S T x y) d e))) new
        go (inr d) e = kept (λ z. d (ap first z))
        go (inl d) (inr e) = kept (λ z. e (ap second z))

    pub shadow-kept : (s : ℕ) → s < slots h → shadow_owner h with-node s ≡ shadow_owner h a s
    unfolding kind
    shadow-kept = shadows-apart w (λ (q : ◌≡◌ {A = ℕ} 1 2). omega arith)

    pub fresh_kept : (k j : ℕ) → k ≤ h → j < nodes h k → node_in S a k j ≡ tree_node S T k j → node_in S with-node k j ≡ tree_node S T k j
    fresh_kept k j p q e = node-cases (λ b. b ≡ tree_node S T k j) k j p q refl e

    -- nodes of another level stay
    pub other-level : (k j : ℕ) → k ≤ h → j < nodes h k → (k ≡ l → ⊥) → node_in S with-node k j ≡ node_in S a k j
    unfolding first
    other-level k j p q z = node-apart w k j p q (λ e. z (ap first e))

    pub node_lines : (n : ℕ) → n < lines h → part with-node (72 * n) 72 ≡ part a (72 * n) 72
    unfolding kind
    node_lines = lines-apart w (λ (q : ◌≡◌ {A = ℕ} 1 0). omega arith)

    pub node-durable : Durable S T o with-node
    node-durable =
        record {
          whole = length-after w ∙ m.whole;
          small = m.small;
          owners = owned-same m.owners shadow-kept;
          stored = λ k j p q o. stored k j p q o (eq-or-not (shadow_owner h a (slot_of k j)) (suc j));
          majors = λ p q. node-cases (λ b. major b ≡ T.major p) 0 p zero-le (page-in h p q) (fresh-major S m.small p) (m.majors p q);
          behind = λ p j q r. node-cases (λ b. minor b j ≤ count (64 * p + j)) 0 p zero-le (page-in h p q)
              (omega (arith, fresh-minor S m.small p j r)) (m.behind p j q r);
          near = λ p j q r. node-cases (λ b. count (64 * p + j) ≤ minor b j + lag (count (64 * p + j))) 0 p zero-le (page-in h p q)
              (omega (arith, fresh-minor S m.small p j r)) (m.near p j q r);
          open_block = λ p q e. fresh_kept 0 p zero-le (page-in h p q) (m.open_block p q e);
          spare = spare-put w m.spare (node-spare S T l i);
        }
      where
        stored : (k j : ℕ) → k ≤ h → j < nodes h k → (shadow_owner h with-node (slot_of k j) ≡ suc j → ⊥)
            → (shadow_owner h a (slot_of k j) ≡ suc j) ⊎ (shadow_owner h a (slot_of k j) ≡ suc j → ⊥)
            → node_in S with-node k j ≡ tree_node S T k j
        stored k j p q o (inl e) = absurd (o (shadow-kept (slot_of k j) (slot-within h k j p) ∙ e))
        stored k j p q o (inr e) = fresh_kept k j p q (m.stored k j p q e)

  -- ---- a loaded node listed

  -- the slot of a node, whose former owner the array has, and which is the top's where that is empty
  pub record Vacant (l i : ℕ) : Type 0 where
    pub low : l ≤ h
    pub inside : i < nodes h l
    pub word : suc i < 2 ^ 64
    pub old : (j : ℕ) → j < nodes h l → shadow_owner h a (slot_of l i) ≡ suc j → node_in S a l j ≡ tree_node S T l j
    pub topped : shadow_owner h a (top_slot h) ≡ 0 → slot_of l i ≡ top_slot h

  module _ {l i : ℕ} (v : Vacant l i) where
    abbrev shadow-bytes : List ℕ
    shadow-bytes = to_le 8 (suc i) ++ replicate 64 0

    abbrev pub with-shadow : List ℕ
    with-shadow = put a (72 * cell_of h (shadow (slot_of l i))) shadow-bytes

    u : Put h a (shadow (slot_of l i)) shadow-bytes
    u =
        record {
          whole = m.whole;
          inside = in-shadow h (slot_of l i) (slot-within h l i v.low);
          size = length-append (to_le 8 (suc i)) (replicate 64 0) ∙ ap (λ (n : ℕ). n + 64) (length_digits 256 8 (suc i));
        }

    pub shadow-lines : (n : ℕ) → n < lines h → part with-shadow (72 * n) 72 ≡ part a (72 * n) 72
    unfolding kind
    shadow-lines = lines-apart u (λ (q : ◌≡◌ {A = ℕ} 2 0). omega arith)

    pub listed_same : shadow_owner h with-shadow (slot_of l i) ≡ suc i
    unfolding shadow_owner
    listed_same =
        ap from_le (same-part u 8 (omega arith) ∙ take_at (to_le 8 (suc i)) (replicate 64 0) 8 (length_digits 256 8 (suc i)))
        ∙ number-exact 256 8 (suc i) (lit< tt) v.word

    pub listed-other : (t : ℕ) → t < slots h → (t ≡ slot_of l i → ⊥) → shadow_owner h with-shadow t ≡ shadow_owner h a t
    unfolding first
    listed-other t p e = shadow-apart u t p (λ z. e (ap first z))

    pub nodes-kept : (k j : ℕ) → k ≤ h → j < nodes h k → node_in S with-shadow k j ≡ node_in S a k j
    unfolding kind
    nodes-kept = nodes-apart u (λ (z : ◌≡◌ {A = ℕ} 2 1). omega arith)

    belong : (t j : ℕ) → t < slots h → shadow_owner h with-shadow t ≡ suc j → (t ≡ slot_of l i) ⊎ (t ≡ slot_of l i → ⊥)
        → belongs h t (suc j) ≡ true
    belong t j p e (inl z) =
        let same : i ≡ j = omega (arith, listed_same, subst (λ (k : ℕ). shadow_owner h with-shadow k ≡ suc j) z e) in
        ap₂ (λ (k n : ℕ). belongs h k (suc n)) z (sym same) ∙ node-belongs h l i v.inside
    belong t j p e (inr z) = m.owners.belong t j p (sym (listed-other t p z) ∙ e)

    top-there : shadow_owner h with-shadow (top_slot h) ≡ 0 → (top_slot h ≡ slot_of l i) ⊎ (top_slot h ≡ slot_of l i → ⊥) → ⊥
    top-there e (inl z) = omega (arith, listed_same, subst (λ (k : ℕ). shadow_owner h with-shadow k ≡ 0) z e)
    top-there e (inr z) = z (sym (v.topped (sym (listed-other (top_slot h) (slot-within h h 0 (le_refl h)) z) ∙ e)))

    stored : (k j : ℕ) → k ≤ h → j < nodes h k → (shadow_owner h with-shadow (slot_of k j) ≡ suc j → ⊥)
        → (shadow_owner h a (slot_of k j) ≡ suc j) ⊎ (shadow_owner h a (slot_of k j) ≡ suc j → ⊥)
        → (slot_of k j ≡ slot_of l i) ⊎ (slot_of k j ≡ slot_of l i → ⊥) → node_in S a k j ≡ tree_node S T k j
    stored k j p q o (inr e) z = m.stored k j p q e
    stored k j p q o (inl e) (inr z) = absurd (o (listed-other (slot_of k j) (slot-within h k j p) z ∙ e))
    stored k j p q o (inl e) (inl z) =
        let level : k ≡ l = sym (level-slot k j) ∙ ap level_of z ∙ level-slot l i in
        subst (λ (n : ℕ). node_in S a n j ≡ tree_node S T n j) (sym level)
        (v.old j (subst (λ (n : ℕ). j < nodes h n) level q) (ap (shadow_owner h a) (sym z) ∙ e))

    page-there : (p : ℕ) → p < pages h → node_in S with-shadow 0 p ≡ node_in S a 0 p
    page-there p q = nodes-kept 0 p zero-le (page-in h p q)

    pub shadow-durable : Durable S T o with-shadow
    unfolding Spare
    shadow-durable =
        record {
          whole = length-after u ∙ m.whole;
          small = m.small;
          owners = record {
            belong = λ t j p e. belong t j p e (eq-or-not t (slot_of l i));
            top = λ e t p. absurd (top-there e (eq-or-not (top_slot h) (slot_of l i)));
          };
          stored = λ k j p q o. nodes-kept k j p q
              ∙ stored k j p q o (eq-or-not (shadow_owner h a (slot_of k j)) (suc j)) (eq-or-not (slot_of k j) (slot_of l i));
          majors = λ p q. ap major (page-there p q) ∙ m.majors p q;
          behind = λ p j q r. subst (λ (b : List ℕ). minor b j ≤ count (64 * p + j)) (sym (page-there p q)) (m.behind p j q r);
          near = λ p j q r. subst (λ (b : List ℕ). count (64 * p + j) ≤ minor b j + lag (count (64 * p + j))) (sym (page-there p q))
              (m.near p j q r);
          open_block = λ p q e. page-there p q ∙ m.open_block p q e;
          spare = spare-put u m.spare (drop_at (to_le 8 (suc i)) (replicate 64 0) 8 (length_digits 256 8 (suc i)));
        }
