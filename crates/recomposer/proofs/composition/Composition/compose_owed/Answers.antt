use Rattle.std.proofs.Common.{rules, sym, ◌≡◌, ◌++◌, ◌∙◌, refl, ap, Option, None, Err, true, false}
use Rattle.composer.specs.FrameDrafts.{DraftGroups}
use Rattle.composer.specs.declared.stop.ComposeStop.{ComposeStop}
use Rattle.composer.specs.declared.stop.ComposeStop.TheVariants.{TooManyGroups}
use Rattle.recomposer.proofs.Frames.{all_of, none_of, owing_at, refused_is, reads_at, part_at, idle_asks}
use Rattle.recomposer.proofs.Applied.{is_nothing_owed}
use Rattle.recomposer.proofs.ShownFrames.{asks_all, asks_part}
use Rattle.recomposer.proofs.composition.Composition.compose_owed.Goals as goal

pub returns-then-is_nothing-clause-made : goal.returns-then-is_nothing-clause-made
returns-then-is_nothing-clause-made g c k m h shows =
    let nothing = sym c.is_nothing.ensures ∙ c.if-is_nothing.true in
    (all_of _ _ nothing, none_of _ _ nothing)

pub returns-then-is_nothing-clause-reads : goal.returns-then-is_nothing-clause-reads
returns-then-is_nothing-clause-reads g c =
    let nothing = sym c.is_nothing.ensures ∙ c.if-is_nothing.true in
    let asked = g.V.View.asked c.args.view.now in
    asks_all c.args.self.now (g.V.View.shows c.args.view.now) asked asked {U = Option DraftGroups} ComposeStop None
    (λ k m h shows. idle_asks c.args.self.now k m h (all_of _ _ nothing) (none_of _ _ nothing) asked asked refl)

pub returns-in-Ok-clause-made : goal.returns-in-Ok-clause-made
returns-in-Ok-clause-made g c k m h shows =
    let composed = c.in-Ok.ensures.frame k m shows h.holds (owing_at c.args.self.now k m h) in
    (composed.made, composed.fits)

pub returns-in-Ok-clause-reads : goal.returns-in-Ok-clause-reads
returns-in-Ok-clause-reads g c =
    asks_all c.args.self.now (g.V.View.shows c.args.view.now) (g.V.View.asked c.args.view.now)
    (g.V.View.asked c.compose.new.view) {U = Option DraftGroups} ComposeStop _
    (λ k m h shows. (c.in-Ok.ensures.frame k m shows h.holds (owing_at c.args.self.now k m h)).came
    ∙ ap (λ l. g.V.View.asked c.args.view.now ++ l) (reads_at c.args.self.now k m h))

pub returns-in-Err-clause-many : goal.returns-in-Err-clause-many
returns-in-Err-clause-many g c k m h shows stop =
    let is : c.compose.result ≡ Err TooManyGroups = search rules in
    refused_is c.args.self.now.program.now k m
    ((c.compose.ensures.frame k m shows h.holds (owing_at c.args.self.now k m h)).many is)

pub returns-in-Err-clause-reads : goal.returns-in-Err-clause-reads
returns-in-Err-clause-reads g c =
    let asked = g.V.View.asked c.args.view.now in
    let asked_then = g.V.View.asked c.compose.new.view in
    asks_part c.args.self.now (g.V.View.shows c.args.view.now) asked asked_then (Option DraftGroups) _
    (λ k m h shows. part_at c.args.self.now k m asked asked_then asked_then h refl
    (c.in-Err.ensures.frame k m shows h.holds (owing_at c.args.self.now k m h)).part)

pub returns-in-Ok-clause-idle : goal.returns-in-Ok-clause-idle
returns-in-Ok-clause-idle g c h =
    let e : true ≡ false = sym (is_nothing_owed _ _ _ c.is_nothing.ensures h.0 h.1) ∙ c.if-is_nothing.false in
    absurd cc

pub returns-in-Err-clause-idle : goal.returns-in-Err-clause-idle
returns-in-Err-clause-idle g c h =
    let e : true ≡ false = sym (is_nothing_owed _ _ _ c.is_nothing.ensures h.0 h.1) ∙ c.if-is_nothing.false in
    absurd cc
