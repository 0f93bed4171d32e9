use Rattle.text_laws.proofs.Canonical.{check_is_idempotent}
use Rattle.text_laws.proofs.laws.check_is_idempotent.Goals as goal

pub returns : goal.returns
returns c = check_is_idempotent
