-- What rebuilding a cache asks of the buffers that are lent to it. Assumes nothing.
use Rattle.std.specs.Prelude.{◌≡◌, List, ℕ, length}
use Rattle.control.specs.Control.{control_length, depth}
use Rattle.node.specs.Sized.{Sized}
use Rattle.forwarding.specs.Rebuild.{Placed}

-- the image is as long as the cache, and each of the owners belongs to its slot
pub record Lent (keys control array image cache owners : List ℕ) : Type 0 where
  pub keys_length : length keys ≡ 48
  pub control_length : length control ≡ control_length
  pub sized : Sized (depth control) array image
  pub same_length : length cache ≡ length image
  pub placed : Placed (depth control) owners
