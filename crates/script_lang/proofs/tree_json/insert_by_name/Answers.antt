use Rattle.std.proofs.Common.{◌≡◌, ◌≤◌, ◌∙◌, ◌+◌, ◌<◌, ◌++◌, ◌∷◌, suc, ap, sym, take, drop, length, rules, arith}
use Rattle.std.proofs.lemmas.List.{set_split}
use Rattle.script_lang.specs.SortedAttributes.{sorted_members}
use Rattle.script_lang.proofs.SortedNames.{put_less, put_equal, put_greater, put_last}
use Rattle.script_lang.proofs.tree_json.insert_by_name.Goals as goal

pub returns-in-Less : goal.returns-in-Less
returns-in-Less c =
    let low : c.loop-index.index < length c.loop-index.sorted.items = search rules in
    ap sorted_members c.in_ok-insert-in-Less.ensures.items
    ∙ put_less c.loop-index.sorted.items c.loop-index.index c.args.attribute c.index.result.now low c.index.ensures
    (sym c.compare_names.ensures ∙ c.in-Less.is)
    ∙ c.loop-index.invariant.placed

pub returns-in-Equal : goal.returns-in-Equal
returns-in-Equal c =
    let low : c.loop-index.index < length c.loop-index.sorted.items = search rules in
    let next : suc c.loop-index.index ≡ c.loop-index.index + 1 = omega arith in
    ap sorted_members (set_split c.loop-index.sorted.items c.loop-index.index c.args.attribute low
    ∙ ap (λ n. take c.loop-index.index c.loop-index.sorted.items
    ++ c.args.attribute ∷ drop n c.loop-index.sorted.items) next)
    ∙ put_equal c.loop-index.sorted.items c.loop-index.index c.args.attribute c.index.result.now low c.index.ensures
    (sym c.compare_names.ensures ∙ c.in-Equal.is)
    ∙ c.loop-index.invariant.placed

pub loop-index-preserved : goal.loop-index-preserved
loop-index-preserved c =
    let low : c.loop-index.index < length c.loop-index.sorted.items = search rules in
    record {
      same = c.loop-index.invariant.same;
      placed = put_greater c.loop-index.sorted.items c.loop-index.index c.args.attribute.now c.index.result.now low
          c.index.ensures (sym c.compare_names.ensures ∙ c.in-Greater.is) ∙ c.loop-index.invariant.placed;
    }

pub returns : goal.returns
returns c =
    let past : length c.loop-index.sorted.items ≤ c.loop-index.index = search rules in
    ap sorted_members c.in_ok-push.ensures.items
    ∙ put_last c.loop-index.sorted.items c.loop-index.index c.args.attribute _ past c.loop-index.invariant.placed
