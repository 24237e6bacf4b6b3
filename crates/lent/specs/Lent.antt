-- The buffers that a module is lent with. Assumes nothing.
use Rattle.std.specs.Prelude.{◌≡◌, length}
use Rattle.calls.specs.Call.{Module, buffers}
use Rattle.lent.specs.declared.Lent.{Lent}

-- what the definitions of the calls see of them
abbrev pub module_of : Lent → Module
module_of m = buffers m.array.now m.control.now m.cache.now

-- the same keys and the same buffers, as long as they were, whatever the buffers hold
pub record Same (m n : Lent) : Type 0 where
  pub keys : n.keys.now ≡ m.keys.now
  pub control : n.control.ghost_name ≡ m.control.ghost_name
  pub array : n.array.ghost_name ≡ m.array.ghost_name
  pub cache : n.cache.ghost_name ≡ m.cache.ghost_name
  pub control_length : length n.control.now ≡ length m.control.now
  pub array_length : length n.array.now ≡ length m.array.now
  pub cache_length : length n.cache.now ≡ length m.cache.now
