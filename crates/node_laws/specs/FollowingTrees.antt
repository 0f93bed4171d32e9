-- Law: the node trees of a composition, from frame to frame.
use Rattle.std.specs.Prelude.{ℕ, ◌≡◌, ◌<◌, ◌≤◌, ◌⊎◌, List, []}
use Rattle.rt_values.specs.Maps.{Map}
use Rattle.rt_groups.specs.GroupForest.{GroupForest, End}
use Rattle.rt_groups.specs.Nodes.{nodes}
use Rattle.rt_groups.specs.Frames.{numbered_forest}
use Rattle.lang_ast.specs.Terms.{Func}
use Rattle.lang_ast.specs.Programs.{Program}
use Rattle.lang_checks.specs.Numbers.{IsNumberedProgram}
use Rattle.lang_checks.specs.ProgramFaults.{program_faults}
use Rattle.compose_model.specs.Composing.{forest}
use Rattle.recompose_laws.specs.Numbering.{without_numbers}
use Rattle.recompose_laws.specs.Distinct.{how_often, AreDistinct}
use Rattle.node_tree.specs.Premises.{CanFollow, AllDistinct as SiblingsAreDistinct}

-- A forest that a composition keeps: none, or the one that composing in a map makes, except for node numbers.
abbrev pub WasComposed : List Func → ℕ → GroupForest → Type 0
WasComposed functions root t = (t ≡ End) ⊎ ((m : Map) × (without_numbers t ≡ forest functions root m))

-- Law: if the numbers of a forest's nodes are unique, siblings of its node tree have distinct numbers at every level.
abbrev pub KeptTreeIsDistinct : Type 0
KeptTreeIsDistinct = (t : GroupForest) (next : ℕ) → AreDistinct t next → SiblingsAreDistinct (nodes t)

-- Law: in a numbered program without faults, the node tree of a frame can follow that of the kept forest: siblings have
-- distinct numbers, and a node that keeps its number keeps its kind and its attribute names, which are distinct. The
-- numbers of the new nodes are unique.
abbrev pub NextTreeCanFollow : Type 0
NextTreeCanFollow = (p : Program) (root : ℕ) (old : GroupForest) (next : ℕ) (m : Map) →
    IsNumberedProgram p → program_faults p ≡ [] → WasComposed p.functions root old → AreDistinct old next →
    let new = numbered_forest old [] [] next (forest p.functions root m) in
    CanFollow (nodes old) (nodes new.0) × AreDistinct new.0 new.1

-- Law: in a numbered program without faults, no frame gives a number again: a number below the next one that no node of
-- the kept forest has is the number of no node of the frame, and the next number does not fall.
abbrev pub NumbersAreNotGivenAgain : Type 0
NumbersAreNotGivenAgain = (p : Program) (root : ℕ) (old : GroupForest) (next : ℕ) (m : Map) →
    IsNumberedProgram p → program_faults p ≡ [] → WasComposed p.functions root old →
    let new = numbered_forest old [] [] next (forest p.functions root m) in
    (next ≤ new.1) × ((x : ℕ) → x < next → how_often x old ≡ 0 → how_often x new.0 ≡ 0)
