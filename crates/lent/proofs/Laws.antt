-- The same buffers, from one call to the next. Assumes nothing.
use mathlib.Core.Path.{refl, ◌∙◌}
use Rattle.lent.specs.declared.Lent.{Lent}
use Rattle.lent.specs.Lent.{Same}

pub same-first : (m : Lent) → Same m m
same-first m =
    record {
      keys = refl;
      control = refl;
      array = refl;
      cache = refl;
      control_length = refl;
      array_length = refl;
      cache_length = refl;
    }

pub same_more : {k m n : Lent} → Same k m → Same m n → Same k n
same_more x y =
    record {
      keys = y.keys ∙ x.keys;
      control = y.control ∙ x.control;
      array = y.array ∙ x.array;
      cache = y.cache ∙ x.cache;
      control_length = y.control_length ∙ x.control_length;
      array_length = y.array_length ∙ x.array_length;
      cache_length = y.cache_length ∙ x.cache_length;
    }
