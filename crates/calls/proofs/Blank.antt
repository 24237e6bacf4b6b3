-- Laws of the blank mark. Assumes nothing.
use mathlib.Core.Path.{◌≡◌, refl}
use lib.Dec.{lit<}
use lib.ListN.{length}
use Rattle.words.proofs.Digits.{Below, below-replicate}
use Rattle.calls.specs.Read.{blank_text}

pub blank-length : length blank_text ≡ 64
unfolding blank_text
blank-length = refl

pub blank-bytes : Below 256 blank_text
unfolding blank_text
blank-bytes = below-replicate 64 (lit< tt)
