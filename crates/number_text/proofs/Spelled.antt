-- Numbers spelled from their last digit, and text behind text in a buffer. Assumes nothing.
use mathlib.Core.Path.{◌≡◌, refl, sym, ap, ap₂, ◌∙◌, subst}
use mathlib.Core.List.{List, [], ◌∷◌, ◌++◌, append_assoc, append-nil}
use Prim.Native.Nat.{ℕ, zero, suc, ◌+◌, ◌-◌, ◌/◌, ◌%◌, ◌^◌, ◌≤◌, ◌<◌}
use native.Mathlib.Nat.{not-suc-le-zero, add_assoc}
use native.Mathlib.Omega.{arith}
use borrow.Author.Tests.{lt-ltb, le-ltb}
use lib.ListN.{length, take, drop, set, length-append, length-drop, drop_of_length-le}
use lib.Seq.{drop-cons, drop-set-lt, get_or-set_same, length-take-le, take-append-add, take_at, take_all, lt-length-set}
use Rattle.words.specs.Bytes.{part, put}
use Rattle.words.proofs.Parts.{length-put}
use Rattle.number_text.specs.Text.{digits_of, printed, Appended}

-- ---- digits

-- a byte put in front of what is behind it
front : (s : List ℕ) (i v : ℕ) → i < length s → drop i (set s i v) ≡ v ∷ drop (suc i) s
front s i v h =
    drop-cons (set s i v) i 0 (lt-length-set s i v h)
    ∙ ap₂ {C = List ℕ} ◌∷◌ (get_or-set_same s i v 0 h) (drop-set-lt (suc i) s i v (omega arith))

pub digit-next : (i x : ℕ) (s : List ℕ) → i < length s → 10 ≤ x → 1 ≤ i
    → digits_of (suc (i - 1)) (x / 10) ++ drop (suc (i - 1)) (set s i (48 + x % 10)) ≡ digits_of (suc i) x ++ drop (suc i) s
unfolding digits_of
digit-next i x s h p q =
    let e : suc (i - 1) ≡ i = omega arith in
    ap (λ (k : ℕ). digits_of k (x / 10) ++ drop k (set s i (48 + x % 10))) e
    ∙ ap (λ (l : List ℕ). digits_of i (x / 10) ++ l) (front s i (48 + x % 10) h)
    ∙ sym (append_assoc (digits_of i (x / 10)) ((48 + x % 10) ∷ []) (drop (suc i) s))
    ∙ rw (le-ltb x 10 p)

pub digit-last : (i x : ℕ) (s : List ℕ) → i < length s → x < 10 → drop i (set s i (48 + x % 10)) ≡ digits_of (suc i) x ++ drop (suc i) s
unfolding digits_of
digit-last i x s h p =
    let e : x % 10 ≡ x = omega arith in
    front s i (48 + x % 10) h ∙ ap (λ (k : ℕ). (48 + k) ∷ drop (suc i) s) e ∙ rw (lt-ltb x 10 p)

pub spelled-first : (x : ℕ) (s : List ℕ) → length s ≤ 20 → digits_of 20 x ++ drop 20 s ≡ printed x
unfolding printed
spelled-first x s h = ap (λ (l : List ℕ). digits_of 20 x ++ l) (drop_of_length-le s h) ∙ append-nil (digits_of 20 x)

-- there is room for one more
pub digit_room : (i x : ℕ) → 10 ≤ x → x < 10 ^ suc i → (1 ≤ i) × (x / 10 < 10 ^ suc (i - 1))
digit_room zero x p q = absurd (not-suc-le-zero {n = 0} (omega arith))
digit_room (suc k) x p q =
    let e : suc k ≡ suc (suc k - 1) = omega arith in
    (omega arith, subst (λ (j : ℕ). x / 10 < 10 ^ j) e (omega arith))

-- ---- text behind text

module _ {s t u : List ℕ} {at p q : ℕ} {xs ys : List ℕ} where
  pub appended-on : Appended s t at p xs → Appended t u p q ys → Appended s u at q (xs ++ ys)
  appended-on a b =
      record {
        size = b.size ∙ a.size;
        bytes = b.bytes ∙ ap (λ (l : List ℕ). l ++ ys) a.bytes ∙ append_assoc (take at s) xs ys;
        end = b.end ∙ ap (λ (k : ℕ). k + length ys) a.end ∙ add_assoc at (length xs) (length ys)
            ∙ ap (λ (k : ℕ). at + k) (sym (length-append xs ys));
      }

-- written by a put
pub appended-put : (s : List ℕ) (at : ℕ) (xs t : List ℕ) (r : ℕ) → at + length xs ≤ length s → t ≡ put s at xs → r ≡ at + length xs
    → Appended s t at r xs
appended-put s at xs t r h e f =
    record {
      size = ap length e ∙ length-put s at xs h;
      bytes =
          ap₂ {C = List ℕ} take (f ∙ ap (λ (k : ℕ). k + length xs) (sym (length-take-le at s (omega arith)))) e
          ∙ take-append-add (take at s) (xs ++ drop (at + length xs) s) (length xs)
          ∙ ap (λ (l : List ℕ). take at s ++ l) (take_at xs (drop (at + length xs) s) (length xs) refl);
      end = f;
    }

-- what a buffer then holds from its start
pub appended-all : {s t : List ℕ} {r : ℕ} {xs : List ℕ} → Appended s t 0 r xs → take r t ≡ xs
appended-all a = a.bytes

-- text, and a number that was spelled at the end of 20 bytes
pub appended-number : {s t u xs : List ℕ} (ds : List ℕ) {at p : ℕ} (n i : ℕ) → Appended s t at p xs → length ds ≡ 20 → i < 20
    → drop i ds ≡ printed n → p + (20 - i) ≤ length t → u ≡ put t p (part ds i (20 - i)) → Appended s u at (p + (20 - i)) (xs ++ printed n)
appended-number {t = t} {u = u} ds {p = p} n i a size less spelled room e =
    let rest : length (drop i ds) ≡ 20 - i = length-drop i ds ∙ ap (λ (k : ℕ). k - i) size in
    let long : length (printed n) ≡ 20 - i = ap length (sym spelled) ∙ rest in
    let all : part ds i (20 - i) ≡ printed n = take_all (20 - i) (drop i ds) (omega arith) ∙ spelled in
    appended-on a
    (appended-put t p (printed n) u (p + (20 - i)) (omega arith) (e ∙ ap (λ (l : List ℕ). put t p l) all)
    (ap (λ (k : ℕ). p + k) (sym long)))

pub appended-none : (s : List ℕ) (at : ℕ) → Appended s s at at []
appended-none s at = record { size = refl; bytes = sym (append-nil (take at s)); end = omega arith }

pub retold : {s t : List ℕ} {at r : ℕ} {xs ys : List ℕ} → xs ≡ ys → Appended s t at r xs → Appended s t at r ys
retold {s} {t} {at} {r} e a = subst (λ (l : List ℕ). Appended s t at r l) e a

-- three and four texts, one behind the other from the start of a buffer
module _ {s t u v : List ℕ} {p q r : ℕ} {xs ys zs : List ℕ}
    (a : Appended s t 0 p xs) (b : Appended t u p q ys) (c : Appended u v q r zs) where
  pub three : take r v ≡ xs ++ ys ++ zs
  three = appended-all (appended-on (appended-on a b) c)

  pub four : {w : List ℕ} {i : ℕ} {ws : List ℕ} → Appended v w r i ws → take i w ≡ xs ++ ys ++ zs ++ ws
  four d = appended-all (appended-on (appended-on (appended-on a b) c) d)
