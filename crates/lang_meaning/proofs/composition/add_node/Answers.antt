use Rattle.std.proofs.Common.{rules, ◌≡◌, [], sym, ap, ◌∙◌, List, ℕ, Err, refl, length}
use Rattle.rt_groups.specs.declared.groups.GroupKind.TheVariants as what
use Rattle.rt_groups.specs.declared.groups.Attribute.{Attribute}
use Rattle.rt_groups.specs.PreorderGroups.{flat_group}
use Rattle.lang_meaning.specs.declared.composition.ScratchStop.TheVariants.{NoMemory}
use Rattle.lang_eval.proofs.Grows.{grew_none, grew_all}
use Rattle.lang_meaning.proofs.ForestSteps.{stopped, on_ok, added_on, one_added, longer_by_one, ran_stop, ran_stop_after, ran_after, ran_added}
use Rattle.lang_meaning.proofs.composition.add_node.Goals as goal

pub returns-in_err-room : goal.returns-in_err-room
returns-in_err-room g c =
    let e : c.from_residual.result ≡ Err NoMemory = search rules in
    record {
      more = stopped _ _ _ e;
      composed = record {
        keeps = g.met.V.View.keeps_itself _;
        same = λ m h. h;
        same_scope = stopped _ _ _ e;
        longer = stopped _ _ _ e;
        fits = stopped _ _ _ e;
        ran = λ m h. ran_stop _ _ _ _ _ _ _ _ _ e (grew_none _ _);
      };
    }

pub returns-in_err-attributes : goal.returns-in_err-attributes
returns-in_err-attributes g c =
    let e : c.from_residual-in_err-attributes.result ≡ Err NoMemory = search rules in
    record {
      more = stopped _ _ _ e;
      composed = record {
        keeps = c.in_err-attributes.ensures.keeps;
        same = c.in_err-attributes.ensures.same;
        same_scope = stopped _ _ _ e;
        longer = stopped _ _ _ e;
        fits = stopped _ _ _ e;
        ran = λ m h. ran_stop_after _ _ _ _ _ _ _ _ _ _ e (c.in_err-attributes.ensures.part m h);
      };
    }

pub returns-in_err-kind : goal.returns-in_err-kind
returns-in_err-kind g c =
    let e : c.from_residual-in_err-kind.result ≡ Err NoMemory = search rules in
    record {
      more = stopped _ _ _ e;
      composed = record {
        keeps = c.in_ok-attributes.ensures.keeps;
        same = c.in_ok-attributes.ensures.same;
        same_scope = stopped _ _ _ e;
        longer = stopped _ _ _ e;
        fits = stopped _ _ _ e;
        ran = λ m h.
            ran_stop_after _ _ _ _ _ _ _ _ _ _ e (grew_all _ _ _ (c.in_ok-attributes.ensures.asks m h));
      };
    }

pub returns : goal.returns
returns g c =
    let start = c.take_spare_attributes.ensures.same in
    let more = one_added _ _ _ _ (added_on _ _ _ _ _ c.add_group.result c.add_group.ensures.added refl start) in
    record {
      more = more;
      composed = record {
        keeps = c.in_ok-attributes.ensures.keeps;
        same = c.in_ok-attributes.ensures.same;
        same_scope = on_ok _ refl;
        longer = longer_by_one _ _ _ more;
        fits = c.add_group.ensures.fits;
        ran = λ m h.
            let made = c.group.ensures ∙ ap (λ (k : List ℕ). flat_group c.args.level.now.depth c.args.site 0
            (what.Node k c.in_ok-attributes.attributes) []) c.in_ok-kind.ensures
            ∙ ap (λ (all : List Attribute). flat_group c.args.level.now.depth c.args.site 0
            (what.Node c.args.kind.now.text all) []) (c.in_ok-attributes.ensures.value m h) in
            ran_after _ _ _ _ _ _ _ _ _ _ _ _ (c.in_ok-attributes.ensures.asks m h)
            (c.in_ok-attributes.ensures.reads m h)
            (ran_added _ _ _ _ _ _ _ _ refl refl
            (added_on _ _ _ _ _ c.add_group.result c.add_group.ensures.added made start)
            (λ x. ap length (sym start) ∙ c.add_group.ensures.full x));
      };
    }
