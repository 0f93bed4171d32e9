-- Law: the own reads of a call, among the reads of a forest.
use Rattle.std.specs.Prelude.{ℕ, ◌==◌, ◌&&◌, ◌≡◌, List, [], map, Bool, true, Some}
use Rattle.std.specs.List.{filter}
use Rattle.std.specs.Cmp.Lexicographic.{pointwise}
use Rattle.rt_groups.specs.GroupForest.{GroupForest, is_call, asks, own_part}
use Rattle.rt_groups.specs.Paths.{Path, PathStep, same_sibling, Found, at_path}
use Rattle.rt_groups.specs.Frames.{CallAtPath, nobody, trace}

-- Whether two steps have the same site, key and occurrence.
abbrev pub same_step : PathStep → PathStep → Bool
same_step a b = same_sibling a.of b.of && (a.occurrence == b.occurrence)

abbrev pub same_path : Path → Path → Bool
same_path = pointwise same_step

-- The objects of the reads whose innermost call is at path `p`, in order, repeats included.
abbrev pub reads_at : Path → List (CallAtPath × ℕ) → List ℕ
reads_at p rs = map (λ r. r.1) (filter (λ r. same_path r.0.path p) rs)

-- Law: if the group at path `p` of a forest is a call, the reads of the forest whose innermost call is at `p` are the
-- own reads of this call, in order.
abbrev pub OwnReadsAreTraced : Type 0
OwnReadsAreTraced = (t : GroupForest) (p : Path) (g : Found) → at_path p t ≡ Some g → is_call g.what ≡ true →
    reads_at p (trace nobody [] [] t) ≡ asks (own_part g.inside)
