use Rattle.std.proofs.Common.{◌≡◌, ◌⊎◌, ap, refl, Some, Err, inl, inr}
use Rattle.play_core.specs.Faults.{IsFault}
use Rattle.play_core.specs.Promise.{exactly}
use Rattle.play_core.specs.declared.fault.Fault.{Fault}
use Rattle.play_core.specs.declared.top.Status.TheVariants as status
use Rattle.play_core.proofs.Plays.{nothing-part, refused-part}
use Rattle.play_core.proofs.top.parse_or_refuse.Goals as goal

pub returns-in-Ok-clause-good : goal.returns-in-Ok-clause-good
returns-in-Ok-clause-good g c = λ fault f. elim (c.in-Ok.ensures.told fault f) [ inl a ↦ absurd cc | inr b ↦ absurd cc ]

pub returns-in-Err-Bad-clause-bad_input : goal.returns-in-Err-Bad-clause-bad_input
returns-in-Err-Bad-clause-bad_input g c e =
    let is : c.refuse.result ≡ status.BadInput = cc in
    let why = c.in-Err-Bad.ensures.bad c.in-Err-Bad.fault (ap Err c.in-Err-Bad.field-0-is) in
    (why.0, (c.in-Err-Bad.fault, why.1, c.refuse.ensures.all is))

pub returns-in-Err-Bad-clause-part : goal.returns-in-Err-Bad-clause-part
returns-in-Err-Bad-clause-part g c output e =
    let why = c.in-Err-Bad.ensures.bad c.in-Err-Bad.fault (ap Err c.in-Err-Bad.field-0-is) in
    let one : (other : Fault) → IsFault c.args.threads c.args.bytes.now other → other ≡ c.in-Err-Bad.fault = λ other f.
    elim (c.in-Err-Bad.ensures.told other f) [
      | inl a ↦ cc
      | inr b ↦ absurd cc
    ] in
    let stopped : (c.refuse.result ≡ status.WriteFault) ⊎ (c.refuse.result ≡ status.NoMemory) =
    elim e [ inl a ↦ inl cc | inr b ↦ inr cc ] in
    refused-part c.args.threads (exactly output) c.args.bytes.now c.in-Err-Bad.fault _ _ why.0 one
    (c.refuse.ensures.part stopped)

pub returns-in-Err-NoMemory-clause-part : goal.returns-in-Err-NoMemory-clause-part
returns-in-Err-NoMemory-clause-part g c output e =
    nothing-part c.args.threads (exactly output) (λ bytes p. (output bytes p, refl)) (Some c.args.bytes.now) _
