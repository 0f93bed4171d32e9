-- Trusted: the three lines of a summary.
use Rattle.std.specs.Prelude.{ℕ, List, ◌++◌, codes}
use Rattle.script_lang.specs.Lines.{line, count_text}
use Rattle.play_gen.specs.declared.tally.Tally.{Tally}

abbrev pub values_text : Tally → List ℕ
values_text t =
    count_text (codes "replies: taken ") t.taken ++ (count_text (codes ", read ") t.read
    ++ (count_text (codes ", changed ") t.changed ++ count_text (codes ", same ") t.same))

abbrev pub applies_text : Tally → List ℕ
applies_text t =
    count_text (codes ", applied ") t.applied ++ (count_text (codes ", conflicts ") t.conflicts
    ++ count_text (codes ", refused ") t.refused)

-- The number of frames, and the sums of their reports.
abbrev pub frames_text : Tally → List ℕ
frames_text t =
    count_text (codes "frames: ") t.frames ++ (count_text (codes ", ran ") t.ran
    ++ (count_text (codes ", calculated ") t.calculated ++ count_text (codes ", reads ") t.reads))

-- The groups and nodes of the last frame.
abbrev pub last_text : Tally → List ℕ
last_text t = count_text (codes "last: groups ") t.groups ++ count_text (codes ", nodes ") t.nodes

-- The replies to the calls outside frames, all frames, and the last frame.
abbrev pub summary_text : Tally → List ℕ
summary_text t = line (values_text t ++ applies_text t) ++ (line (frames_text t) ++ line (last_text t))
