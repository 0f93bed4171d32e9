use Rattle.std.proofs.Common.{◌∙◌, sym, ap, Some, option_map}
use Rattle.std.specs.Prelude.{string_bytes}
use Rattle.std.proofs.lemmas.Slice.Eq.{bytes_eq-Decides}
use Rattle.play_args.specs.CommandWords.{command_named, command_of_args, texts}
use Rattle.play_args.proofs.Firsts.{split_first, split_any, some-inj, none-apart, unequal, unfound}
use Rattle.play_args.proofs.args.parse_args.Goals as goal

pub returns-in-Some : goal.returns-in-Some
returns-in-Some c =
    let words = split_first c.args.words.now c.split_at.result.0.now c.split_at.result.1.now
    c.split_at.ensures.by_index.0 c.split_at.ensures.front_len c.index-first-0.result c.index-first-0.is in
    let same = (bytes_eq-Decides c.in-Some.name.now c.as_str.result.now).0 (sym c.if-eq.ensures) in
    c.command_named.ensures ∙ ap (λ w. command_named w (texts c.split_at.result.1.now)) (same ∙ c.as_str.ensures.value)
    ∙ ap command_of_args (sym words.1)

pub returns-in_default : goal.returns-in_default
returns-in_default c =
    let words = split_first c.args.words.now c.split_at.result.0.now c.split_at.result.1.now
    c.split_at.ensures.by_index.0 c.split_at.ensures.front_len c.index-first-0.result c.index-first-0.is in
    let told = c.in_ok-name.ensures in
    unfound (texts c.args.words.now) (texts c.split_at.result.0.now) (string_bytes c.index-first-0.result)
    (texts c.split_at.result.1.now) (option_map (λ s. s.now) c.in_ok-name.field-0) words.0 words.1 told.run
    told.threads told.check told.generated
    (λ e. unequal c.in-Some.name.now c.as_str.result.now c.if-eq.ensures
    (some-inj c.in-Some.name.now c.as_str.result.now
    (ap (option_map (λ s. s.now)) (sym c.in-Some.is) ∙ e ∙ ap Some (sym c.as_str.ensures.value))))

pub returns-in_default-2 : goal.returns-in_default-2
returns-in_default-2 c =
    let words = split_any c.args.words.now c.split_at.result.0.now c.split_at.result.1.now c.split_at.ensures.by_index.0
    c.split_at.ensures.front_len in
    let told = c.in_ok-name.ensures in
    unfound (texts c.args.words.now) (texts c.split_at.result.0.now) words.0 (texts c.split_at.result.1.now)
    (option_map (λ s. s.now) c.in_ok-name.field-0) words.1 words.2 told.run told.threads told.check told.generated
    (λ e. none-apart words.0 (ap (option_map (λ s. s.now)) (sym c.in_default.is) ∙ e))
