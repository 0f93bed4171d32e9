use Rattle.std.proofs.Common.{ℕ, ◌≡◌, ◌+◌, ◌-◌, drop, get_or, nat_eq, is_some, if◌then◌else◌, vec_len, vec_capacity, arith, ap, sym, ◌∙◌}
use Rattle.std.proofs.lemmas.List.{drop_more}
use Rattle.std.specs.Map.{lookup}
use Rattle.read_links.specs.Storage.{IsReady, count_new}
use Rattle.read_links.proofs.Spares.{on_err}
use Rattle.read_links.proofs.Rooms.{all_are_ready, at_most_one, before_or_at}
use Rattle.read_links.proofs.links.reserve_each.Goals.{then-not-branch, else-not-branch}
use Rattle.read_links.proofs.links.reserve_each.Goals as goal

pub returns-in_err-reserve_list-clause-room : goal.returns-in_err-reserve_list-clause-room
returns-in_err-reserve_list-clause-room c = λ n all.
    c.in_err-reserve_list.ensures.room n (c.loop-object.invariant.5 n all)

pub returns-in_err-reserve_list-clause-free : goal.returns-in_err-reserve_list-clause-free
returns-in_err-reserve_list-clause-free c = λ all.
    on_err c.from_residual.result (c.in_err-reserve_list.ensures.free (c.loop-object.invariant.5 1 all))

pub loop-object-preserved : goal.loop-object-preserved
loop-object-preserved c =
    let deps = c.args.deps.now in
    let index = c.loop-object.object-index in
    let es = c.loop-object.objects.entries in
    let has = is_some (lookup (nat_eq (get_or deps index 0)) es) in
    let known = c.in_ok-reserve_list.ensures.known in
    let counted : c.if-not-branch.fresh ≡ c.loop-object.fresh + (if has then 0 else 1) =
    elim c.if-not-branch.branch [
      | then-not-branch w ↦ (let one = ap {B = ℕ} (λ b. if b then 0 else 1) (sym known ∙ w.if-not-branch.true) in
          let is = w.fresh-is in omega (arith, one, is))
      | else-not-branch w ↦ (let none = ap {B = ℕ} (λ b. if b then 0 else 1) (sym known ∙ w.if-not-branch.false) in
          let is = w.fresh-is in omega (arith, none, is))
    ] in
    let most = at_most_one has in
    let head = ap (λ l. count_new l es) (drop_more deps index 0 c.loop-object-test.true) in
    let later = c.in_ok-reserve_list.ensures.count (drop (index + 1) deps) in
    let whole = c.in_ok-reserve_list.ensures.count deps in
    let before = c.loop-object.invariant.2 in
    let few = c.loop-object.invariant.3 in (
      c.in_ok-reserve_list.ensures.links ∙ c.loop-object.invariant.0,
      c.in_ok-reserve_list.ensures.spare ∙ c.loop-object.invariant.1,
      omega (arith, counted, head, later, whole, before),
      omega (arith, counted, most, few),
      λ s k inside. before_or_at (λ j. IsReady (λ v. v.items) (λ v. vec_capacity v - vec_len v) s
          c.reserve_list.new.objects.entries (get_or deps j 0)) k index inside
          (λ less. c.in_ok-reserve_list.ensures.kept s (get_or deps k 0) (c.loop-object.invariant.4 s k less))
          (c.in_ok-reserve_list.ensures.ready s),
      λ n all. c.in_ok-reserve_list.ensures.room n (c.loop-object.invariant.5 n all),
    )

pub returns-clause-ready : goal.returns-clause-ready
returns-clause-ready c = λ s.
    let past = c.loop-object-test.false in
    all_are_ready (λ v. v.items) (λ v. vec_capacity v - vec_len v) s c.loop-object.objects.entries c.args.deps.now
    (λ k inside. c.loop-object.invariant.4 s k (omega (arith, past, inside)))
