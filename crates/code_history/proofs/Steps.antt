-- Runs of the code. A call of one of the six functions is its arguments, its answer and what its lent buffers hold at exit, such that the
-- function's contract holds of them: `Learnt` is what its `ensures` lines tell a caller. A step of a history is such a call, or a power cut
-- between calls. Assumes nothing.
use Prim.Native.Nat.{ℕ}
use mathlib.Core.List.{List, [], ◌∷◌}
use contract.Lifetimes.{Lfts}
use denote.Triple.Clauses.{AtExit}
use borrow.Fn.Kind.{ParamKind, ResultKind}
use borrow.Fn.Kinds.{Dens, res_t, Out, ended_of}
use Rattle.answer.specs.declared.Answer.{Answer}
use Rattle.answer.specs.declared.Answer.TheVariants.{Cut}
use Rattle.calls.specs.Call.{Module, buffers}
use Rattle.history_laws.specs.History.{Event, reads, writes, turns, recovers, lists, formats, power_cut}
use Rattle.format.proofs.format.Kinds as format-kinds
use Rattle.format.proofs.format.Reads as format-contract
use Rattle.read.proofs.read.Kinds as read-kinds
use Rattle.read.proofs.read.Reads as read-contract
use Rattle.write.proofs.write.Kinds as write-kinds
use Rattle.write.proofs.write.Reads as write-contract
use Rattle.turn.proofs.turn.Kinds as turn-kinds
use Rattle.turn.proofs.turn.Reads as turn-contract
use Rattle.recovery.proofs.recover.Kinds as recover-kinds
use Rattle.recovery.proofs.recover.Reads as recover-contract
use Rattle.dirty_pages.proofs.dirty_pages.Kinds as list-kinds
use Rattle.dirty_pages.proofs.dirty_pages.Reads as list-contract

-- a call of a function that has parameters of these kinds and this contract
pub record Call {n : ℕ} (ps : List (ParamKind n)) (r : ResultKind n) (Contract : Out n ps r) : Type 0 where
  pub lifetimes : Lfts n
  pub args : Dens lifetimes ps
  pub answer : (res_t r lifetimes).Denot
  pub exit : AtExit (ended_of n ps r) lifetimes
  pub contract : Contract lifetimes args answer exit

-- format(depth, family, keys, control, array, cache)
abbrev pub Formatted : Type 0
Formatted = Call format-kinds.ps format-kinds.r format-contract.Learnt

module _ (c : Formatted) where
  abbrev pub format_before : Module
  format_before = buffers c.args.1.1.1.1.0.now c.args.1.1.1.0.now c.args.1.1.1.1.1.0.now

  abbrev pub format_after : Module
  format_after = buffers c.exit.1.1.1.1.0.now c.exit.1.1.1.0.now c.exit.1.1.1.1.1.0.now

  abbrev pub format_event : Event
  format_event = formats c.args.1.1.0.now c.args.0 c.args.1.0

-- read(keys, control, array, cache, line, out, allowance)
abbrev pub ReadLine : Type 0
ReadLine = Call read-kinds.ps read-kinds.r read-contract.Learnt

module _ (c : ReadLine) where
  abbrev pub read_before : Module
  read_before = buffers c.args.1.1.0.now c.args.1.0.now c.args.1.1.1.0.now

  abbrev pub read_after : Module
  read_after = buffers c.exit.1.1.0.now c.exit.1.0.now c.exit.1.1.1.0.now

  abbrev pub read_event : Event
  read_event = reads c.args.0.now c.args.1.1.1.1.0 c.args.1.1.1.1.1.1.0 c.args.1.1.1.1.1.0.now

-- write(keys, control, array, cache, line, text, allowance)
abbrev pub Written : Type 0
Written = Call write-kinds.ps write-kinds.r write-contract.Learnt

module _ (c : Written) where
  abbrev pub write_before : Module
  write_before = buffers c.args.1.1.0.now c.args.1.0.now c.args.1.1.1.0.now

  abbrev pub write_after : Module
  write_after = buffers c.exit.1.1.0.now c.exit.1.0.now c.exit.1.1.1.0.now

  abbrev pub write_event : Event
  write_event = writes c.args.0.now c.args.1.1.1.1.0 c.args.1.1.1.1.1.0.now c.args.1.1.1.1.1.1.0

-- turn(keys, control, array, cache, page, allowance)
abbrev pub Turned : Type 0
Turned = Call turn-kinds.ps turn-kinds.r turn-contract.Learnt

module _ (c : Turned) where
  abbrev pub turn_before : Module
  turn_before = buffers c.args.1.1.0.now c.args.1.0.now c.args.1.1.1.0.now

  abbrev pub turn_after : Module
  turn_after = buffers c.exit.1.1.0.now c.exit.1.0.now c.exit.1.1.1.0.now

  abbrev pub turn_event : Event
  turn_event = turns c.args.0.now c.args.1.1.1.1.0 c.args.1.1.1.1.1.0

-- recover(keys, control, array, cache, allowance)
abbrev pub Recovered : Type 0
Recovered = Call recover-kinds.ps recover-kinds.r recover-contract.Learnt

module _ (c : Recovered) where
  abbrev pub recover_before : Module
  recover_before = buffers c.args.1.1.0.now c.args.1.0.now c.args.1.1.1.0.now

  abbrev pub recover_after : Module
  recover_after = buffers c.exit.1.1.0.now c.exit.1.0.now c.exit.1.1.1.0.now

  abbrev pub recover_event : Event
  recover_event = recovers c.args.0.now c.args.1.1.1.1.0

-- dirty_pages(control, cache, out), of a module with this array
abbrev pub Listed : Type 0
Listed = Call list-kinds.ps list-kinds.r list-contract.Learnt

module _ (array : List ℕ) (c : Listed) where
  abbrev pub list_before : Module
  list_before = buffers array c.args.0.now c.args.1.0.now

  abbrev pub list_event : Event
  list_event = lists c.args.1.1.0.now

-- a step from a module to the next, by an event, with its answer
pub data Step : Module → Event → Answer → Module → Type 0 where
  formatted : (c : Formatted) → Step (format_before c) (format_event c) c.answer (format_after c)
  read : (c : ReadLine) → Step (read_before c) (read_event c) c.answer (read_after c)
  written : (c : Written) → Step (write_before c) (write_event c) c.answer (write_after c)
  turned : (c : Turned) → Step (turn_before c) (turn_event c) c.answer (turn_after c)
  recovered : (c : Recovered) → Step (recover_before c) (recover_event c) c.answer (recover_after c)
  listed : (array : List ℕ) (c : Listed) → Step (list_before array c) (list_event array c) c.answer (list_before array c)
  power : (m : Module) (cache : List ℕ) → Step m (power_cut cache) (Cut 0) (buffers m.array m.control cache)

-- steps one after the other
pub data Run : Module → List Event → Module → Type 0 where
  none : (m : Module) → Run m [] m
  next : {m n k : Module} {e : Event} {a : Answer} {es : List Event} → Step m e a n → Run n es k → Run m (e ∷ es) k
