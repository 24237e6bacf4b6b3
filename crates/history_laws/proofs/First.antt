-- The first state of a history: what a done format leaves. Assumes nothing.
use mathlib.Core.Path.{◌≡◌, refl, sym, ap, ap₂, ◌∙◌}
use mathlib.Core.Bool.{Bool, true, ◌&&◌}
use mathlib.Core.List.{List}
use Prim.Native.Nat.{ℕ, zero, suc, ◌^◌, ◌≤◌, ◌<◌}
use native.Mathlib.Omega.{arith}
use borrow.Author.Tests.{le-leb}
use lib.Dec.{lit<, leb}
use Rattle.words.specs.Bytes.{digits}
use Rattle.words.proofs.Digits.{number-exact}
use Rattle.control.specs.Control.{mark_of, mark, depth, root, count, turn_count, valid_head, fresh_control}
use Rattle.control.proofs.Laws.{Marked, marked, turn-count-at, turn-none}
use Rattle.cache.specs.Cache.{empty_cache}
use Rattle.cache.proofs.Laws.{length-empty, below-empty, owner-empty, formed-empty}
use Rattle.journal.specs.Journal.{media}
use Rattle.calls.specs.Format.{fresh_array}
use Rattle.history_laws.specs.History.{empty_book}
use Rattle.call_laws.proofs.Fresh.{array-length, array-bytes, control-length, control-bytes}
use Rattle.history_laws.proofs.Setting.{Setting, tree_root, closed, is_done, Says}
use Rattle.history_laws.proofs.Tree.{tree-tag}
use Rattle.history_laws.proofs.Formatted.{no_writes, formatted-durable, none-listed, no-data}
use Rattle.history_laws.proofs.State.{RowOk, Settled, Ready, settled-holds}

-- ---- the control record of a format

mark-word : (f : ℕ) → mark_of f < 2 ^ 32
unfolding mark_of
mark-word zero = lit< tt
mark-word (suc f) = lit< tt

fresh-mark : (h f r : ℕ) → f ≤ 1 → Marked (fresh_control h f r) f
unfolding mark fresh_control digits
fresh-mark h f r p = marked (fresh_control h f r) f p (number-exact 256 4 (mark_of f) (lit< tt) (mark-word f))

fresh-head : (h f r : ℕ) → 1 ≤ h → h ≤ 3 → f ≤ 1 → valid_head (fresh_control h f r) ≡ true
unfolding valid_head fresh_control depth count digits
fresh-head h f r p q s =
    ap (λ (a : Bool). a && true && true && leb 1 h && leb h 3 && true) (fresh-mark h f r s).right
    ∙ ap₂ (λ (a b : Bool). a && b && true) (le-leb 1 h p) (le-leb h 3 q)

fresh-depth : (h f r : ℕ) → depth (fresh_control h f r) ≡ h
unfolding depth fresh_control digits
fresh-depth h f r = refl

fresh-count : (h f r : ℕ) → count (fresh_control h f r) ≡ 0
unfolding count fresh_control digits
fresh-count h f r = refl

fresh-root : (h f r : ℕ) → r < 2 ^ 64 → root (fresh_control h f r) ≡ r
unfolding root fresh_control digits
fresh-root h f r p = number-exact 256 8 r (lit< tt) p

fresh-turn : (h f r : ℕ) → turn_count (fresh_control h f r) ≡ 0
unfolding turn_count fresh_control digits
fresh-turn h f r = refl

-- ---- the state

module _ (S : Setting) where
  open S use {keys, keyed, h, low, high}

  abbrev top : ℕ
  top = tree_root S no_writes

  abbrev k : List ℕ
  k = fresh_control h S.family top

  word : top < 2 ^ 64
  word = tree-tag S no_writes h 0

  first-settled : Settled S empty_book closed (media (fresh_array keys h) (k))
  unfolding empty_book RowOk is_done Says
  first-settled =
      record {
        formed = record {
          array-length = array-length keys h;
          control_length = control-length h S.family top;
          array-bytes = array-bytes keys h;
          control-bytes = control-bytes h S.family top (omega arith);
        };
        right = fresh-head h S.family top low high S.known;
        deep = fresh-depth h S.family top;
        alike = (fresh-mark h S.family top S.known).told;
        idle = fresh-count h S.family top;
        section = record {
          valid = sym (turn-none (k) (sym (turn-count-at (k)) ∙ fresh-turn h S.family top));
          says = fresh-turn h S.family top;
        };
        keeps = record { durable = formatted-durable S; rows = λ n p. (refl, no-data S n p) };
        top = fresh-root h S.family top word;
      }

  pub first-ready : Ready S empty_book closed (record { array = fresh_array keys h; control = k; cache = empty_cache h })
  unfolding empty_book
  first-ready =
      record {
        holds = settled-holds (empty_cache h) (length-empty h) (below-empty h) first-settled;
        idle = fresh-count h S.family top;
        live = record {
          durable = formatted-durable S;
          fit = record { sized = length-empty h; formed = formed-empty h; bytes = below-empty h };
          listed = λ s p. owner-empty h s ∙ sym (none-listed S s);
          fresh = λ s i p o. absurd (omega (arith, o, owner-empty h s));
          clean = λ s i p o z. absurd (omega (arith, o, owner-empty h s));
        };
      }
