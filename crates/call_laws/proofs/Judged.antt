-- What holds of the inputs of a call that is not refused for them. Assumes nothing.
use mathlib.Core.Path.{◌≡◌, refl, ap}
use mathlib.Core.Bool.{Bool, true, false, not, ◌&&◌, cond, and-eq-true_iff}
use mathlib.Core.List.{List, [], ◌∷◌, ◌++◌}
use Prim.Native.Nat.{ℕ, suc, ◌≤◌, ◌<◌, zero-le}
use native.Mathlib.Omega.{arith}
use lib.Dec.{eqb, leb}
use lib.ListN.{length}
use borrow.Author.Tests.{eq-eqb, ne_eqb, lt-leb, le-leb, lt-ltb, le-ltb, not-false, eqb-true, leb-true, leb-false, ltb-false}
use Rattle.memory_map.specs.Map.{page_of, pages, lines, array_length}
use Rattle.slot_map.specs.Slots.{cache_length}
use Rattle.control.specs.Control.{control_length, depth, count, is_open, other_open, valid, pending}
use Rattle.control.proofs.Laws.{Head, valid-parts}
use Rattle.cache.specs.Cache.{formed}
use Rattle.calls.specs.Call.{Module, judged, length_tests, opening_tests, entry_tests, entry_refusal, access_refusal, unlike}
use Rattle.calls.specs.Recovery.{recovery_refusal}
use Rattle.calls.specs.Turn.{turn_refusal}
use Rattle.calls.specs.Format.{format_refusal}

pub record Passed (t : Bool) (xs : List (Bool × ℕ)) : Type 0 where
  pub test : t ≡ false
  pub rest : judged xs ≡ 0

-- a test that does not refuse
pub passed : (t : Bool) (n : ℕ) (xs : List (Bool × ℕ)) → judged ((t, suc n) ∷ xs) ≡ 0 → Passed t xs
unfolding judged
passed true n xs e = absurd (omega arith)
passed false n xs e = record { test = refl; rest = e }

pub alike : (a b : ℕ) → not (eqb a b) ≡ false → a ≡ b
alike a b e = eqb-true a b (not-false (eqb a b) e)

-- the same of the code that judges: the test that refuses, one that does not, and the end
pub here : (t : Bool) (n : ℕ) (xs : List (Bool × ℕ)) → t ≡ true → n ≡ judged ((t, n) ∷ xs)
unfolding judged
here t n xs e = rw e

pub on : (t : Bool) (n : ℕ) (xs : List (Bool × ℕ)) {r : ℕ} → t ≡ false → r ≡ judged xs → r ≡ judged ((t, n) ∷ xs)
unfolding judged
on t n xs e f = rw e f

pub end : 0 ≡ judged []
unfolding judged
end = refl

pub unlike-true : {a b : ℕ} → (a ≡ b → ⊥) → unlike a b ≡ true
unlike-true {a} {b} e = ap not (ne_eqb a b e)

pub unlike-false : {a b : ℕ} → a ≡ b → unlike a b ≡ false
unlike-false {a} {b} e = ap not (eq-eqb a b e)

-- a refusal among the first tests is that of all
pub judged-front : (xs ys : List (Bool × ℕ)) {n : ℕ} → n ≡ judged xs → (n ≡ 0 → ⊥) → n ≡ judged (xs ++ ys)
unfolding judged
judged-front [] ys e p = absurd (p e)
judged-front (x ∷ xs) ys {n} e p = go x.0 e (λ f. judged-front xs ys f p)
  where
    go : (t : Bool) → n ≡ cond t x.1 (judged xs) → (n ≡ judged xs → n ≡ judged (xs ++ ys)) → n ≡ cond t x.1 (judged (xs ++ ys))
    go true q f = q
    go false q f = f q

-- none of the numbers is above n
abbrev pub Most : ℕ → List (Bool × ℕ) → Type 0
Most n [] = Unit {0}
Most n (x ∷ xs) = (x.1 ≤ n) × Most n xs

pub judged-most : (n : ℕ) (xs : List (Bool × ℕ)) → Most n xs → judged xs ≤ n
unfolding judged
judged-most n [] s = zero-le
judged-most n (x ∷ xs) s = go x.0 (judged-most n xs s.1)
  where
    go : (t : Bool) → judged xs ≤ n → cond t x.1 (judged xs) ≤ n
    go true q = s.0
    go false q = q

-- lengths that fit a depth
pub record Sized (h : ℕ) (m : Module) : Type 0 where
  pub array : length m.array ≡ array_length h
  pub cache : length m.cache ≡ cache_length h

sized : (h : ℕ) (m : Module) (xs : List (Bool × ℕ)) → judged (length_tests h m ++ xs) ≡ 0 → Sized h m × (judged xs ≡ 0)
sized h m xs e =
    let p = passed (not (eqb (length m.array) (array_length h))) 3 _ e in
    let q = passed (not (eqb (length m.cache) (cache_length h))) 4 xs p.rest in
    (record { array = alike _ _ p.test; cache = alike _ _ q.test }, q.rest)

-- 2 3 21 4 5
pub record Opened (keys : List ℕ) (m : Module) : Type 0 where
  pub keys_length : length keys ≡ 48
  pub control_length : length m.control ≡ control_length
  pub right : valid m.control ≡ true
  pub fits : Sized (depth m.control) m

opened : (keys : List ℕ) (m : Module) (xs : List (Bool × ℕ)) → judged (opening_tests keys m ++ xs) ≡ 0 → Opened keys m × (judged xs ≡ 0)
opened keys m xs e =
    let p = passed (not (eqb (length keys) 48)) 1 _ e in
    let q = passed (not (eqb (length m.control) control_length)) 2 _ p.rest in
    let r = passed (not (valid m.control)) 20 _ q.rest in
    let s = sized (depth m.control) m xs r.rest in
    (record { keys_length = alike _ _ p.test; control_length = alike _ _ q.test; right = not-false _ r.test; fits = s.0 }, s.1)

pub recovery-opened : (keys : List ℕ) (m : Module) → recovery_refusal keys m ≡ 0 → Opened keys m
unfolding recovery_refusal
recovery-opened keys m e = (opened keys m [] e).0

-- where the first tests pass, the others judge
pub opened-on : {keys : List ℕ} {m : Module} (ys : List (Bool × ℕ)) {r : ℕ} → Opened keys m → r ≡ judged ys
    → r ≡ judged (opening_tests keys m ++ ys)
opened-on ys o e =
    on _ _ _ (unlike-false o.keys_length) (on _ _ _ (unlike-false o.control_length) (on _ _ _ (ap not o.right)
    (on _ _ _ (unlike-false o.fits.array) (on _ _ _ (unlike-false o.fits.cache) e))))

-- nothing is pending
idle-of : (m : Module) → pending m.control ≡ false → count m.control ≡ 0
idle-of m e = omega (arith, ltb-false 0 (count m.control) e)

idle-on : (m : Module) → count m.control ≡ 0 → pending m.control ≡ false
idle-on m e = le-ltb 0 (count m.control) (omega arith)

-- and 7 6 22
pub record Entered (keys : List ℕ) (line : ℕ) (b : List ℕ) (m : Module) : Type 0 where
  pub opening : Opened keys m
  pub buffer : length b ≡ 64
  pub inside : line < lines (depth m.control)
  pub idle : count m.control ≡ 0

-- last 23 30, where the page is not kept for a turn
abbrev state_tests : Bool → Module → List (Bool × ℕ)
state_tests kept m = (not (formed (depth m.control) m.cache), 23) ∷ (kept, 30) ∷ []

state-passed : (kept : Bool) (m : Module) → judged (state_tests kept m) ≡ 0
    → (formed (depth m.control) m.cache ≡ true) × (kept ≡ false)
state-passed kept m e =
    let p = passed (not (formed (depth m.control) m.cache)) 22 _ e in (not-false _ p.test, (passed kept 29 [] p.rest).test)

pub record Accepted (keys : List ℕ) (line : ℕ) (b : List ℕ) (m : Module) : Type 0 where
  pub entry : Entered keys line b m
  pub shaped : formed (depth m.control) m.cache ≡ true
  pub closed : is_open m.control (page_of line) ≡ false

module _ (keys : List ℕ) (line : ℕ) (b : List ℕ) (m : Module) where
  entered : (xs : List (Bool × ℕ)) → judged (entry_tests keys line b m ++ xs) ≡ 0 → Entered keys line b m × (judged xs ≡ 0)
  entered xs e =
      let o = opened keys m _ e in
      let p = passed (not (eqb (length b) 64)) 6 _ o.1 in
      let q = passed (leb (lines (depth m.control)) line) 5 _ p.rest in
      let r = passed (pending m.control) 21 xs q.rest in (
        record {
          opening = o.0;
          buffer = alike _ _ p.test;
          inside = leb-false _ _ q.test;
          idle = idle-of m r.test;
        },
        r.rest,
      )

  pub entry-passed : entry_refusal keys line b m ≡ 0 → Entered keys line b m
  unfolding entry_refusal
  entry-passed e = (entered [] e).0

  pub access-accepted : access_refusal keys line b m ≡ 0 → Accepted keys line b m
  unfolding access_refusal
  access-accepted e =
      let p = entered _ e in
      let q = state-passed (is_open m.control (page_of line)) m p.1 in
      record { entry = p.0; shaped = q.0; closed = q.1 }

  -- a refusal before 23
  pub entry-refused : {n : ℕ} → n ≡ entry_refusal keys line b m → (n ≡ 0 → ⊥) → n ≡ access_refusal keys line b m
  unfolding entry_refusal access_refusal
  entry-refused e p = judged-front (entry_tests keys line b m) _ e p

  -- past the tests before it: 23, 30, or none
  pub entry-on : {r : ℕ} → Entered keys line b m → r ≡ judged (state_tests (is_open m.control (page_of line)) m)
      → r ≡ access_refusal keys line b m
  unfolding access_refusal
  entry-on p e =
      opened-on _ p.opening (on _ _ _ (unlike-false p.buffer) (on _ _ _ (lt-leb _ line p.inside)
      (on _ _ _ (idle-on m p.idle) e)))

-- of a turn, past 2 3 21 4 5: 6 22 23 30
pub record TurnAccepted (keys : List ℕ) (p : ℕ) (m : Module) : Type 0 where
  pub opening : Opened keys m
  pub inside : p < pages (depth m.control)
  pub idle : count m.control ≡ 0
  pub shaped : formed (depth m.control) m.cache ≡ true
  pub closed : other_open m.control p ≡ false

module _ (keys : List ℕ) (p : ℕ) (m : Module) where
  pub turn-accepted : turn_refusal keys p m ≡ 0 → TurnAccepted keys p m
  unfolding turn_refusal
  turn-accepted e =
      let o = opened keys m _ e in
      let q = passed (leb (pages (depth m.control)) p) 5 _ o.1 in
      let r = passed (pending m.control) 21 _ q.rest in
      let s = state-passed (other_open m.control p) m r.rest in
      record { opening = o.0; inside = leb-false _ _ q.test; idle = idle-of m r.test; shaped = s.0; closed = s.1 }

  -- a refusal among the first tests
  pub turn-first : {n : ℕ} → n ≡ recovery_refusal keys m → (n ≡ 0 → ⊥) → n ≡ turn_refusal keys p m
  unfolding recovery_refusal turn_refusal
  turn-first e q = judged-front (opening_tests keys m) _ e q

  -- past them: 6, 22, and what is last
  module _ (o : Opened keys m) where
    pub turn-past : pages (depth m.control) ≤ p → 6 ≡ turn_refusal keys p m
    unfolding turn_refusal
    turn-past q = opened-on _ o (here _ _ _ (le-leb _ p q))

    module _ (i : p < pages (depth m.control)) where
      pub turn-pending : (count m.control ≡ 0 → ⊥) → 22 ≡ turn_refusal keys p m
      unfolding turn_refusal
      turn-pending q = opened-on _ o (on _ _ _ (lt-leb _ p i) (here _ _ _ (lt-ltb 0 (count m.control) (omega arith))))

      -- 23, 30, or none
      pub turn_on : {r : ℕ} → count m.control ≡ 0 → r ≡ judged (state_tests (other_open m.control p) m) → r ≡ turn_refusal keys p m
      unfolding turn_refusal
      turn_on z e = opened-on _ o (on _ _ _ (lt-leb _ p i) (on _ _ _ (idle-on m z) e))

pub record Formattable (keys : List ℕ) (h f : ℕ) (m : Module) : Type 0 where
  pub low : 1 ≤ h
  pub high : h ≤ 3
  pub family : f ≤ 1
  pub keys_length : length keys ≡ 48
  pub control_length : length m.control ≡ control_length
  pub fits : Sized h m

pub format-accepted : (keys : List ℕ) (h f : ℕ) (m : Module) → format_refusal keys h f m ≡ 0 → Formattable keys h f m
unfolding format_refusal
format-accepted keys h f m e =
    let p = passed (not (leb 1 h && leb h 3 && leb f 1)) 0 _ e in
    let q = passed (not (eqb (length keys) 48)) 1 _ p.rest in
    let r = passed (not (eqb (length m.control) control_length)) 2 _ q.rest in
    let both = (and-eq-true_iff (leb 1 h && leb h 3) (leb f 1)).0 (not-false _ p.test) in
    let depths = (and-eq-true_iff (leb 1 h) (leb h 3)).0 both.0 in
    record {
      low = leb-true 1 h depths.0;
      high = leb-true h 3 depths.1;
      family = leb-true f 1 both.1;
      keys_length = alike _ _ q.test;
      control_length = alike _ _ r.test;
      fits = (sized h m [] r.rest).0;
    }

-- the depth of a valid control record
pub head_of : (keys : List ℕ) (m : Module) → Opened keys m → Head m.control
head_of keys m o = (valid-parts o.right).head
