-- The example programs, computed.
use Rattle.std.proofs.Common.{◌≡◌, ap, refl, pos, rules}
use Rattle.std.specs.Int.{int_wrap, w64}
use Rattle.std.proofs.lemmas.Int.{int_wrap_fits}
use Rattle.rt_values.specs.Operators.{numbers_from}
use Rattle.compose_model.specs.Composing.{forest_after, turns}
use Rattle.compose_model.specs.SmallPrograms.{RowsUnderKeys, CallsRunAlone, CellsAreKept, cells_trail, LoopsReadEachTurn, PicksReadOneOperand, ExamplesHold}

rows : RowsUnderKeys
unfolding forest_after turns
rows = (refl, refl, refl, refl, refl, refl, refl)

calls : CallsRunAlone
unfolding forest_after turns
calls = (refl, refl, refl, refl, refl)

four : int_wrap w64 (pos 4) ≡ pos 4
four = int_wrap_fits w64 (pos 4) (search rules)

nine : int_wrap w64 (pos 9) ≡ pos 9
nine = int_wrap_fits w64 (pos 9) (search rules)

cells : CellsAreKept
unfolding forest_after turns
cells = (ap (λ z. cells_trail 2 z 0) four, ap (λ z. cells_trail 3 z 1) nine, refl, refl, refl, refl, refl)

loops : LoopsReadEachTurn
unfolding forest_after turns numbers_from
loops = (refl, refl, refl, refl)

picks : PicksReadOneOperand
picks = (refl, refl)

pub examples : ExamplesHold
examples = (rows, calls, cells, loops, picks)
