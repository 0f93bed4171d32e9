use Rattle.std.proofs.Common.{ℕ, List, subst, arith}
use Rattle.snap_nested.specs.Ids.{valid_for_base}
use Rattle.snap_nested.specs.Members.{ids_of}
use Rattle.snap_world.specs.Sorted.{IsHighest}
use Rattle.snap_world.proofs.Searching.{base_under, searched_at}
use Rattle.snap_world.proofs.Sorted.{base_reader}
use Rattle.snap_world.proofs.searched_ids.find_base.Goals as goal

pub returns-in_default : goal.returns-in_default
returns-in_default c = λ owned.
    subst (λ (l : List ℕ). IsHighest (valid_for_base (ids_of c.args.family.now.members) c.args.reader) l
    c.highest_for_base.result) c.ids.ensures.ids c.highest_for_base.ensures

pub returns : goal.returns
returns c = λ owned.
    let ms = c.args.family.now.members in
    let f = ids_of ms in
    let n = c.args.reader in
    let of_parent = searched_at f c.args.order.now c.args.family.now.held c.args.found.now (f.parent n) c.in-Some.at
    c.index-found-at.result c.requires.found (omega (arith, c.in-Some.ensures.within)) c.index-found-at.is
    c.in-Some.ensures.parent c.in-Some.ensures.live in
    base_under c.args.family.now.sound.sound c.requires.live c.in-Some.ensures.inner c.in-Some.ensures.live
    (base_reader ms n c.requires.live) owned of_parent.own
    (subst (λ (l : List ℕ). IsHighest (valid_for_base f n) l c.highest_for_base-own.result) c.ids-2.ensures.ids
    c.highest_for_base-own.ensures) (of_parent.base owned) c.higher.ensures.first c.higher.ensures.second
    c.higher.ensures.one
