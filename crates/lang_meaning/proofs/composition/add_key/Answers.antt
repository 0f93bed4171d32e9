use Rattle.std.proofs.Common.{rules, ◌≡◌, [], ap, ◌∙◌, Err, refl}
use Rattle.rt_values.specs.declared.value.Value.{Value}
use Rattle.rt_groups.specs.declared.groups.GroupKind.TheVariants as what
use Rattle.rt_groups.specs.PreorderGroups.{flat_group}
use Rattle.lang_meaning.specs.declared.composition.ScratchStop.TheVariants.{NoMemory}
use Rattle.lang_meaning.proofs.ForestSteps.{stopped, on_ok, added_on, one_added, longer_by_one, ran_stop_after, ran_after, ran_added}
use Rattle.lang_meaning.proofs.composition.add_key.Goals as goal

pub returns-in_err-key : goal.returns-in_err-key
returns-in_err-key g c =
    let e : c.from_residual.result ≡ Err NoMemory = search rules in
    record {
      more = stopped _ _ _ e;
      composed = record {
        keeps = c.in_err-key.ensures.keeps;
        same = c.in_err-key.ensures.same;
        same_scope = stopped _ _ _ e;
        longer = stopped _ _ _ e;
        fits = stopped _ _ _ e;
        ran = λ m h. ran_stop_after _ _ _ _ _ _ _ _ _ _ e (c.in_err-key.ensures.part m h);
      };
    }

pub returns : goal.returns
returns g c =
    let more = one_added _ _ _ c.add_group.result c.add_group.ensures.added in
    record {
      more = more;
      composed = record {
        keeps = c.in_ok-key.ensures.keeps;
        same = c.in_ok-key.ensures.same;
        same_scope = on_ok _ refl;
        longer = longer_by_one _ _ _ more;
        fits = c.add_group.ensures.fits;
        ran = λ m h.
            let made = c.group.ensures
            ∙ ap (λ (v : Value). flat_group c.args.level.now.depth c.args.site 0 (what.Key v) [])
            (c.in_ok-key.ensures.value m h) in
            ran_after _ _ _ _ _ _ _ _ _ _ _ _ (c.in_ok-key.ensures.asks m h) (c.in_ok-key.ensures.reads m h)
            (ran_added _ _ _ _ _ _ _ _ refl refl
            (added_on _ _ _ _ _ c.add_group.result c.add_group.ensures.added made refl) c.add_group.ensures.full);
      };
    }
