use Rattle.std.proofs.Common.{◌≡◌, drop, length}
use Rattle.snap_api.specs.Settle.{settle_from}
use Rattle.snap_plain.specs.Choices.{put_all}
use Rattle.snap_plain.proofs.settle_objects.settle_into.Given as goal

abbrev pub invariant-loop-i : goal.invariant-loop-i
invariant-loop-i g l = record {
  wide : length l.view ≡ l.i;
  put : put_all l.view l.changed
      (settle_from g.P.Policy.rules l.now l.shot.wrote l.i (drop l.i l.objects) (drop l.i l.shot.base)
      (drop l.i l.current) (drop l.i l.shot.view))
      ≡ settle_from g.P.Policy.rules l.now l.shot.wrote 0 l.objects l.shot.base l.current l.shot.view;
}
