-- Trusted: the command that the arguments after the program name ask for.
use Rattle.std.specs.Prelude.{ℕ, ◌+◌, ◌-◌, ◌*◌, ◌==◌, nat_le, List, [], ◌∷◌, map, ◌&&◌, not, true, false, Option, Some, None, codes, String, string_bytes, if◌then◌else◌}
use Rattle.std.specs.Option.{option_map}
use Rattle.std.specs.Char.{is_ascii_digit}
use Rattle.std.specs.Str.{bytes_eq}
use Rattle.std.specs.declared.alloc.Global.{Global}
use Rattle.script_lang.specs.declared.flags.Flags.{Flags}
use Rattle.play_args.specs.declared.command.Command.{Command}
use Rattle.play_args.specs.declared.command.Command.TheVariants.{Run, Threads, Check, Gen}

abbrev pub no_flags : Flags
no_flags = record { json = false; ops = false }

-- The flags of these words after earlier ones: each word is a flag, and no flag occurs twice.
abbrev pub flags_after : Flags → List (List ℕ) → Option Flags
flags_after flags [] = Some flags
flags_after flags (w ∷ ws) =
    if bytes_eq w (codes "--json") && not flags.json then flags_after (record flags { json = true }) ws
    else if bytes_eq w (codes "--ops") && not flags.ops then flags_after (record flags { ops = true }) ws
    else None

-- `check` has no flags.
abbrev pub check_with : List (List ℕ) → Option Command
check_with [] = Some Check
check_with (w ∷ ws) = None

-- The number that further digits make of `n`, if it is at most `most`.
abbrev pub with_digits : ℕ → ℕ → List ℕ → Option ℕ
with_digits most n [] = Some n
with_digits most n (b ∷ bs) =
    if is_ascii_digit b && nat_le (10 * n + (b - 48)) most then with_digits most (10 * n + (b - 48)) bs else None

-- The number, at most `most`, that a word of decimal digits without a leading zero writes.
abbrev pub number_word : ℕ → List ℕ → Option ℕ
number_word most [] = None
number_word most (b ∷ []) = with_digits most 0 (b ∷ [])
number_word most (b ∷ c ∷ bs) = if b == 48 then None else with_digits most 0 (b ∷ c ∷ bs)

-- The size is not 0.
abbrev pub gen_of : Option ℕ → Option ℕ → Option Command
gen_of (Some number) (Some size) = if size == 0 then None else Some (Gen number size)
gen_of _ _ = None

-- `gen` has a number below 2^32, and a size of at most 1,000.
abbrev pub gen_with : List (List ℕ) → Option Command
gen_with (n ∷ s ∷ []) = gen_of (number_word 4294967295 n) (number_word 1000 s)
gen_with _ = None

-- The command with this name and these further words.
abbrev pub command_named : List ℕ → List (List ℕ) → Option Command
command_named w ws =
    if bytes_eq w (codes "run") then option_map Run (flags_after no_flags ws)
    else if bytes_eq w (codes "threads") then option_map Threads (flags_after no_flags ws)
    else if bytes_eq w (codes "check") then check_with ws
    else if bytes_eq w (codes "gen") then gen_with ws
    else None

-- The command of a list of arguments. A list that is none of a command asks for nothing.
abbrev pub command_of_args : List (List ℕ) → Option Command
command_of_args [] = None
command_of_args (w ∷ ws) = command_named w ws

abbrev pub texts : List (String Global) → List (List ℕ)
texts words = map string_bytes words
