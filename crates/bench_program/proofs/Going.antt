-- Between two reads: what was read so far was taken, and the buffers are the same. Assumes nothing.
use mathlib.Core.Path.{◌≡◌, subst}
use mathlib.Core.List.{List}
use Prim.Native.Nat.{ℕ}
use Rattle.std.specs.Prelude.{Option, None, Some, unwrap_or}
use Rattle.commands.specs.declared.Parser.TheVariants.{Start}
use Rattle.lent.specs.declared.Lent.{Lent}
use Rattle.lent.specs.Lent.{module_of, Same}
use Rattle.lent.proofs.Laws.{same-first, same_more}
use Rattle.bench_session.specs.Session.{Took, started, unlimited}
use Rattle.bench_session.proofs.Laws.{took-none, took_more}
use Rattle.bench_program.specs.declared.Session.{Session}
use Rattle.bench_program.specs.State.{state_in}

pub record Going (m : Lent) (s : Session) (n : Lent) : Type 0 where
  pub took : Took m.keys.now (started (module_of m)) (state_in s n)
  pub same : Same m n

pub going-first : (m : Lent) → Going m (record { parser = Start; allowance = unlimited }) m
going-first m = record { took = took-none m.keys.now (started (module_of m)); same = same-first m }

pub going_on : {m n o : Lent} {s t : Session} → Going m s n → Took n.keys.now (state_in s n) (state_in t o) → Same n o → Going m t o
going_on {m} {n} {o} {s} {t} x y z =
    record {
      took = took_more x.took (subst (λ (k : List ℕ). Took k (state_in s n) (state_in t o)) x.same.keys y);
      same = same_more x.same z;
    }

-- a read that gave something, and one that gave nothing
module _ {m n o : Lent} {s : Session} {r : Option Session} (x : Going m s n)
    (y : Took n.keys.now (state_in s n) (state_in (unwrap_or r s) o)) (z : Same n o) where
  pub going-more : {t : Session} → r ≡ Some t → Going m t o
  going-more e = going_on x (subst (λ (r : Option Session). Took n.keys.now (state_in s n) (state_in (unwrap_or r s) o)) e y) z

  pub going-ended : r ≡ None → Going m s o
  going-ended e = going_on x (subst (λ (r : Option Session). Took n.keys.now (state_in s n) (state_in (unwrap_or r s) o)) e y) z
