-- Trusted: the exit status of the process.
use Rattle.std.specs.Prelude.{ℕ}
use Rattle.play_core.specs.declared.top.Status.{Status}
use Rattle.play_core.specs.declared.top.Status.TheVariants.{Done, Usage, BadInput, ReadFault, WriteFault, NoMemory, TooLong}

-- 0 means that the command was done. 1 is not used: shells and tools report it for their own faults.
abbrev pub number : Status → ℕ
number Done = 0
number Usage = 2
number BadInput = 3
number ReadFault = 4
number WriteFault = 5
number NoMemory = 6
number TooLong = 7
