use Rattle.std.proofs.Common.{OnOk, rules, subst, Some}
use Rattle.lang_ast.specs.Programs.{functions_of}
use Rattle.snap_policy.specs.Table.{table}
use Rattle.snap_api.specs.DeskReads.{LogsReadsIn, AreLegal}
use Rattle.play_run.specs.RunState.{LogsFrameReads}
use Rattle.play_run.proofs.RunLogs.{result_logged}
use Rattle.play_run.proofs.frame.compose.Goals as goal

pub returns-clause-frame : goal.returns-clause-frame
returns-clause-frame g c = record {
  told = λ k m h shows. c.compose_in.ensures.frame.told k m h (search rules);
  left = λ k m h shows. c.compose_in.ensures.frame.left k m h (search rules);
  calls = λ k m h shows. c.compose_in.ensures.frame.calls k m h (search rules);
  program = c.compose_in.ensures.frame.program;
}

pub returns-clause-log : goal.returns-clause-log
returns-clause-log g c k m h shows =
    let fs = functions_of c.args.memory.now.composition.program.now in
    let keeps = c.compose_in.ensures.keeps in
    let desk = c.new-desk.result in
    let ended = c.compose_in.new.view in
    let a = c.args.caller in
    let name = c.args.name in
    let result = c.compose_in.result in
    let told = subst (λ n. LogsReadsIn (g.V.Versions.log desk.world.now) (g.V.Versions.log ended.world.now) n
    (Some name) keeps.more) c.new-desk.ensures.rest.0
    (subst (λ o. LogsReadsIn (g.V.Versions.log desk.world.now) (g.V.Versions.log ended.world.now) desk.caller o
    keeps.more) c.new-desk.ensures.rest.1 keeps.tells) in
    let read : OnOk result (LogsFrameReads fs (g.V.Versions.stands desk.world.now) a name k m (g.V.Versions.log desk.world.now) (g.V.Versions.log ended.world.now)) =
    result_logged fs (g.V.Versions.stands desk.world.now) a name k m result (g.V.Versions.log desk.world.now)
    (g.V.Versions.log ended.world.now) desk.asked.now ended.asked.now keeps.more keeps.asks told keeps.legal
    (c.compose_in.ensures.asks k m h (search rules)) (c.compose_in.ensures.frame.told k m h (search rules)) in
    subst (λ l. OnOk result (LogsFrameReads fs (g.V.Versions.stands c.args.world.now) a name k m
    (g.V.Versions.log c.args.world.now) l)) (search rules)
    (subst (λ w. OnOk result (LogsFrameReads fs (g.V.Versions.stands w) a name k m (g.V.Versions.log w)
    (g.V.Versions.log ended.world.now))) c.new-desk.ensures.world read)

pub returns-clause-reads : goal.returns-clause-reads
returns-clause-reads g c =
    let keeps = c.compose_in.ensures.keeps in
    let desk = c.new-desk.result in
    let ended = c.compose_in.new.view in
    let told = subst (λ n. LogsReadsIn (g.V.Versions.log desk.world.now) (g.V.Versions.log ended.world.now) n
    (Some c.args.name) keeps.more) c.new-desk.ensures.rest.0
    (subst (λ o. LogsReadsIn (g.V.Versions.log desk.world.now) (g.V.Versions.log ended.world.now) desk.caller o
    keeps.more) c.new-desk.ensures.rest.1 keeps.tells) in
    record {
      xs = keeps.more;
      reads = subst (λ l. LogsReadsIn (g.V.Versions.log c.args.world.now) l c.args.caller (Some c.args.name)
          keeps.more) (search rules)
          (subst (λ w. LogsReadsIn (g.V.Versions.log w) (g.V.Versions.log ended.world.now) c.args.caller
          (Some c.args.name)
          keeps.more) c.new-desk.ensures.world told);
      legal = subst (λ l. AreLegal table (g.V.Versions.stands c.args.world.now) (g.V.Versions.log c.args.world.now) l)
          (search rules)
          (subst (λ w. AreLegal table (g.V.Versions.stands w) (g.V.Versions.log w) (g.V.Versions.log ended.world.now))
          c.new-desk.ensures.world keeps.legal);
    }
