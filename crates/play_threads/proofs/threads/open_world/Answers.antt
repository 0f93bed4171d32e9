use Rattle.std.specs.Prelude.{Result, Ok, Err, IfOk}
use Rattle.play_threads.proofs.threads.open_world.Goals as goal

-- What holds of a result that is `Ok` may be weakened.
ok_more : {A E : Type 0} {P Q : A → Type 0} (r : Result A E) → ((a : A) → P a → Q a) → IfOk r P → IfOk r Q
ok_more (Ok a) f h = f a h
ok_more (Err e) f h = h

pub returns : goal.returns
returns c = ok_more c.new-2.result (λ b stands. stands _ c.in_ok-set_up_world.ensures.opened) c.new-2.ensures.stands
