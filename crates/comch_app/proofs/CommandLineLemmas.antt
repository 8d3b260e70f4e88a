-- From the clauses of clap to what is given.
use Rattle.std.{proofs.Common.{◌≡◌, ◌∙◌, ◌⊎◌, List, [], ◌∷◌, Some, None, true, refl, ap, subst, inl, inr, sym, codes, Ok, Err, Result, IfOk, MatchResult}, specs.declared.option.Option.Option}
use Rattle.clap.{specs.Words.{App, Row, Text, HasMatchesOf, FailsBy, HasKind, IsAmong, Kinds, fault_of, found_of, is_simple, is_simple_and_free, kind_of, matches_of, rows_of}, specs.declared.error.Error.Error, specs.declared.error.kind.ErrorKind.ErrorKind, specs.declared.error.kind.ErrorKind.TheVariants.OutOfMemory, specs.declared.parser.matches.ArgMatches.ArgMatches, specs.declared.parser.matches.Found.Found, proofs.WalkLemmas.{first_value-rows, raw_values-rows}, proofs.OnLiterals.clap_on_literals}
use Rattle.comch_app.specs.{CommandLine.line, Names.{given, given_at, given_by, given_in, Given, GivesUp}}

pub line_is_simple : is_simple line ≡ true
unfolding line clap_on_literals
line_is_simple = refl

pub line_is_free : is_simple_and_free line ≡ true
unfolding line clap_on_literals
line_is_free = refl

given_where : (ks : Kinds) (g : Given) → ks ≡ [] → given_at ks g ≡ Some g
given_where [] g e = refl
given_where (k ∷ ks) g e = cc

given_in-rows : (f : Found) → given_in f ≡ given_by (rows_of f)
given_in-rows f = cc (first_value-rows f (codes "command"), raw_values-rows f (codes "numbers"), first_value-rows f (codes "terms"))

pub given_ok : (a : App) (words : List Text) (m : ArgMatches) → a ≡ line → fault_of a words ≡ [] → HasMatchesOf a words m → given words ≡ Some (given_in (found_of m))
given_ok a words m e none has =
    let free : fault_of line words ≡ [] = ap (λ (x : App). fault_of x words) (sym e) ∙ none in
    let rows : rows_of (found_of m) ≡ matches_of line words = (has (ap is_simple e ∙ line_is_simple)).0 ∙ ap (λ (x : App). matches_of x words) e in
    given_where (fault_of line words) (given_by (matches_of line words)) free ∙ ap (λ (r : List Row). Some (given_by r)) (sym rows) ∙ ap (λ (g : Given). Some g) (sym (given_in-rows (found_of m)))

memory_gives_up : (k : ErrorKind) (g : Option Given) → k ≡ OutOfMemory → GivesUp k g
memory_gives_up k g e = subst (λ (x : ErrorKind). GivesUp x g) (sym e) tt

none_gives_up : (k : ErrorKind) (g : Option Given) → g ≡ None → GivesUp k g
none_gives_up OutOfMemory g e = tt
none_gives_up _ g e = e

gives_up : (k : ErrorKind) (ks : Kinds) (g : Given) → (k ≡ OutOfMemory) ⊎ IsAmong k ks → GivesUp k (given_at ks g)
gives_up k ks g (inl h) = memory_gives_up k (given_at ks g) h
gives_up k [] g (inr h) = absurd h
gives_up k (x ∷ ks) g (inr h) = none_gives_up k None refl

pub given_err : (a : App) (words : List Text) (e : Error) → a ≡ line → HasKind (fault_of a words) e → GivesUp (kind_of e) (given words)
given_err a words e same has =
    let kinds : HasKind (fault_of line words) e = subst (λ (x : App). HasKind (fault_of x words) e) same has in
    gives_up (kind_of e) (fault_of line words) (given_by (matches_of line words)) kinds

-- what a parse of the line gives
pub parsed : (a : App) (words : List Text) (r : Result ArgMatches Error) → a ≡ line → (is_simple_and_free a ≡ true → FailsBy (fault_of a words) r) → IfOk r (HasMatchesOf a words)
    → MatchResult r (λ m. given words ≡ Some (given_in (found_of m))) (λ e. GivesUp (kind_of e) (given words))
parsed a words (Ok m) same fails has = given_ok a words m same (fails (ap is_simple_and_free same ∙ line_is_free)) has
parsed a words (Err e) same fails has = given_err a words e same (fails (ap is_simple_and_free same ∙ line_is_free))
