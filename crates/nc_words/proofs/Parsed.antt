-- The declared command is one of which `clap` says what words give.
use Rattle.std.proofs.Common.{◌≡◌, ◌∙◌, true, List, refl, sym, subst, Result}
use Rattle.clap.proofs.OnLiterals.{clap_on_literals}
use Rattle.clap.specs.Faults.{fault_of, is_simple_and_free}
use Rattle.clap.specs.Kinds.{FailsBy}
use Rattle.clap.specs.Matches.{found_of}
use Rattle.clap.specs.Simple.{App, HasMatchesOf, is_simple, matches_of}
use Rattle.clap.specs.Walk.{Row, Text, rows_of}
use Rattle.clap.specs.declared.error.Error.{Error}
use Rattle.clap.specs.declared.parser.matches.ArgMatches.{ArgMatches}
use Rattle.nc_words.specs.CommandLine.{nccloud}
use Rattle.nc_words.specs.Matched.{faults, matched}

simple : is_simple nccloud ≡ true
unfolding clap_on_literals
simple = refl

free : is_simple_and_free nccloud ≡ true
unfolding clap_on_literals
free = refl

matched_is : (words : List Text) → matched words ≡ matches_of nccloud words
unfolding matched
matched_is words = refl

faults_is : (words : List Text) → faults words ≡ fault_of nccloud words
unfolding faults
faults_is words = refl

pub rows : (app : App) (words : List Text) (m : ArgMatches) → app ≡ nccloud → HasMatchesOf app words m
    → rows_of (found_of m) ≡ matched words
rows app words m is has =
    let whole : HasMatchesOf nccloud words m = subst (λ (a : App). HasMatchesOf a words m) is has in
    (whole simple).0 ∙ sym (matched_is words)

pub fails : (app : App) (words : List Text) (r : Result ArgMatches Error) → app ≡ nccloud
    → (is_simple_and_free app ≡ true → FailsBy (fault_of app words) r) → FailsBy (faults words) r
fails app words r is by =
    let whole : is_simple_and_free nccloud ≡ true → FailsBy (fault_of nccloud words) r =
    subst (λ (a : App). is_simple_and_free a ≡ true → FailsBy (fault_of a words) r) is by in
    subst (λ kinds. FailsBy kinds r) (sym (faults_is words)) (whole free)
