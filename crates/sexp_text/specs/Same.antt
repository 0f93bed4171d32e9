-- Internal: the comparison of forests without their offsets.
use Rattle.std.specs.Prelude.{◌&&◌, Bool, true, false}
use Rattle.std.specs.Str.{bytes_eq}
use Rattle.sexp_text.specs.Forest.{Forest, empty, atom, text, list}

-- Whether two forests have the same trees, each of the same kind with the same bytes or inner trees.
abbrev pub same_forest : Forest → Forest → Bool
same_forest empty empty = true
same_forest empty (atom bt b g) = false
same_forest empty (text bt b g) = false
same_forest empty (list bt j g) = false
same_forest (atom at a f) empty = false
same_forest (atom at a f) (atom bt b g) = bytes_eq a b && same_forest f g
same_forest (atom at a f) (text bt b g) = false
same_forest (atom at a f) (list bt j g) = false
same_forest (text at a f) empty = false
same_forest (text at a f) (atom bt b g) = false
same_forest (text at a f) (text bt b g) = bytes_eq a b && same_forest f g
same_forest (text at a f) (list bt j g) = false
same_forest (list at i f) empty = false
same_forest (list at i f) (atom bt b g) = false
same_forest (list at i f) (text bt b g) = false
same_forest (list at i f) (list bt j g) = same_forest i j && same_forest f g
