-- The matches of clap for the arguments of each command.
use Rattle.std.proofs.Common.{◌≡◌, ◌∙◌, List, [], ◌∷◌, true, Option, Some, None, option_map, codes, refl, ap, subst}
use Rattle.clap.specs.Words.{App, Row, Text, is_simple, subcommand_of, subcommand_rows_of, takes}
use Rattle.clap.specs.Matches.{subcommand_name_of}
use Rattle.clap.specs.Simple.{HasMatchesOf}
use Rattle.clap.specs.declared.parser.matches.ArgMatches.{ArgMatches}
use Rattle.clap.specs.declared.parser.matches.ArgMatches.TheViews.{out-ArgMatches}
use Rattle.clap.proofs.OnLiterals.{clap_on_literals}
use Rattle.play_args.specs.CommandLine.{command_app}

simple : is_simple command_app ≡ true
unfolding clap_on_literals
simple = refl

pub run_taken : takes command_app (codes "run" ∷ []) ≡ true
unfolding clap_on_literals
run_taken = refl

pub threads_taken : takes command_app (codes "threads" ∷ []) ≡ true
unfolding clap_on_literals
threads_taken = refl

pub check_taken : takes command_app (codes "check" ∷ []) ≡ true
unfolding clap_on_literals
check_taken = refl

pub gen_taken : takes command_app (codes "gen" ∷ []) ≡ true
unfolding clap_on_literals
gen_taken = refl

match_subcommand : Option (Text × List Row) → Option Text
match_subcommand = option_map (λ p. p.0)

run_met : match_subcommand (subcommand_of command_app (codes "run" ∷ [])) ≡ Some (codes "run")
unfolding clap_on_literals match_subcommand
run_met = refl

threads_met : match_subcommand (subcommand_of command_app (codes "threads" ∷ [])) ≡ Some (codes "threads")
unfolding clap_on_literals match_subcommand
threads_met = refl

check_met : match_subcommand (subcommand_of command_app (codes "check" ∷ [])) ≡ Some (codes "check")
unfolding clap_on_literals match_subcommand
check_met = refl

gen_met : match_subcommand (subcommand_of command_app (codes "gen" ∷ [])) ≡ Some (codes "gen")
unfolding clap_on_literals match_subcommand
gen_met = refl

-- Two mappings in a row are one mapping.
both : {A B C : Type 0} (f : A → B) (g : B → C) (o : Option A)
    → option_map (λ a. g (f a)) o ≡ option_map g (option_map f o)
both f g None = refl
both f g (Some a) = refl

-- The name of the matches is the name of their rows.
named : (m : ArgMatches) → subcommand_name_of m ≡ match_subcommand (subcommand_rows_of m)
unfolding match_subcommand
named m = both _ (λ (p : Text × List Row). p.0) (out-ArgMatches m).subcommand

-- Equal command lines and equal arguments have the same matches.
pub moved : (a : App) (ws vs : List Text) (m : ArgMatches) → a ≡ command_app → ws ≡ vs → HasMatchesOf a ws m
    → HasMatchesOf command_app vs m
moved a ws vs m e f h = subst (λ (x : App). HasMatchesOf x vs m) e (subst (λ (y : List Text). HasMatchesOf a y m) f h)

pub run_named : (m : ArgMatches) → HasMatchesOf command_app (codes "run" ∷ []) m → subcommand_name_of m ≡ Some (codes "run")
run_named m h = named m ∙ ap match_subcommand (h simple).1 ∙ run_met

pub threads_named : (m : ArgMatches) → HasMatchesOf command_app (codes "threads" ∷ []) m → subcommand_name_of m ≡ Some (codes "threads")
threads_named m h = named m ∙ ap match_subcommand (h simple).1 ∙ threads_met

pub check_named : (m : ArgMatches) → HasMatchesOf command_app (codes "check" ∷ []) m → subcommand_name_of m ≡ Some (codes "check")
check_named m h = named m ∙ ap match_subcommand (h simple).1 ∙ check_met

pub gen_named : (m : ArgMatches) → HasMatchesOf command_app (codes "gen" ∷ []) m → subcommand_name_of m ≡ Some (codes "gen")
gen_named m h = named m ∙ ap match_subcommand (h simple).1 ∙ gen_met
