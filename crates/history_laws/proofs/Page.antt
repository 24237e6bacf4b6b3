-- The path of a page loaded, in a module that is ready. Assumes nothing.
use mathlib.Core.Path.{◌≡◌, refl, ap₂, ◌∙◌, subst}
use Prim.Native.Nat.{ℕ, ◌<◌}
use Rattle.memory_map.specs.Map.{pages}
use Rattle.control.specs.Control.{depth, root}
use Rattle.journal.proofs.Again.{put-cells}
use Rattle.calls.specs.Call.{Module, media_of}
use Rattle.calls.specs.Path.{loaded, load_path}
use Rattle.history_laws.specs.History.{Book}
use Rattle.call_laws.proofs.Loads.{Loads, LoadsIf, path-loads}
use Rattle.history_laws.proofs.Setting.{Setting, tree_of, tree_root, Opening}
use Rattle.history_laws.proofs.Walked.{Array, Walked, walked}
use Rattle.history_laws.proofs.Reached.{Reached}
use Rattle.history_laws.proofs.State.{row_moved, Keeps, Settled, Holds, Ready, settled-now}

pub record Paged (S : Setting) (b : Book) (o : Opening) (m : Module) (p : ℕ) : Type 0 where
  pub ready : Ready S b o m
  pub page : p < pages S.h

module _ {S : Setting} {b : Book} {o : Opening} {m : Module} {p : ℕ} (w : Paged S b o m p) where
  open S use {keys, h, low, high}
  open w use {ready, page}

  abbrev held : Holds S b o m
  held = ready.holds

  pub settled : Settled S b o (media_of m)
  settled = settled-now held ready.idle

  pub whole : Array S m.array
  whole = record { whole = held.formed.array-length; plain = held.formed.array-bytes }

  pub walk : Walked (tree_of b) o whole p page m.cache
  walk = walked (tree_of b) o whole p page m.cache ready.live

  pub path-is : load_path (depth m.control) keys m.array (root m.control) p m.cache ≡ loaded walk.cache walk.cells
  path-is = ap₂ (λ (d r : ℕ). load_path d keys m.array r p m.cache) held.deep settled.top ∙ walk.same

  pub loads : Loads h walk.cache walk.cells
  unfolding LoadsIf
  loads =
      subst (LoadsIf h) walk.same
      (path-loads h low high keys m.array whole.whole whole.plain p page (tree_root S (tree_of b)) m.cache ready.live.fit)

  pub reached : Reached S (tree_of b) o (put-cells m.array walk.cells) walk.cache p
  reached = record { live = walk.live; page = page; held = walk.path }

  -- the array with the path's batch keeps what the book says
  pub keeps : Keeps S b o (put-cells m.array walk.cells)
  keeps =
      record {
        durable = walk.live.durable;
        rows = λ n q. row_moved S (record { count = refl; major = λ z. refl }) _ _ (b.text n) (walk.rows n q) (settled.keeps.rows n q);
      }
