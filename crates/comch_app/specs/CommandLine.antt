-- The command line as clap sees it: one simple command with a required word, up to two numbers and an option with one value.
use Rattle.std.specs.{Prelude.{◌≡◌, true, false, List, [], ◌∷◌, Some, None, codes, unwrap_or, option_map}, declared.option.Option.Option}
use Rattle.clap.specs.{Words.{App, Kinds, Row, Rule, Text, all_of, first_of, first_value, matched_of, raw_values, new_app, new_rule, with_rule, matches_of, fault_of, rule_of}, Simple.on_top, declared.parser.matches.Found.Found, declared.builder.arg.Arg.Arg, declared.error.kind.ErrorKind.ErrorKind, declared.error.kind.ErrorKind.TheVariants.OutOfMemory}

abbrev pub command_rule : Rule
command_rule = record (new_rule (codes "command")) { required = true }

abbrev pub numbers_rule : Rule
numbers_rule = record (new_rule (codes "numbers")) { range = Some (record { start_inclusive = 0; end_inclusive = 2 }) }

abbrev pub terms_rule : Rule
terms_rule = record (new_rule (codes "terms")) { long = Some (codes "terms") }

abbrev pub bare : App
bare = on_top (λ s. record s { no_binary_name = true }) (new_app (codes "comch"))

unfoldable pub line : App
line = with_rule (with_rule (with_rule bare command_rule) numbers_rule) terms_rule

-- the words of a command line, apart
pub record Given : Type 0 where
  pub command : Option Text
  pub numbers : List Text
  pub terms : Option Text

abbrev pub given_by : List Row → Given
given_by rows = record {
  command = first_of (codes "command") rows;
  numbers = unwrap_or (all_of (codes "numbers") rows) [];
  terms = first_of (codes "terms") rows;
}

-- the same of the matches that a parse returns
abbrev pub given_in : Found → Given
given_in f = record {
  command = first_value f (codes "command");
  numbers = unwrap_or (option_map raw_values (matched_of f (codes "numbers"))) [];
  terms = first_value f (codes "terms");
}

-- what is given, where there is no fault
abbrev pub given_at : Kinds → Given → Option Given
given_at [] g = Some g
given_at (k ∷ ks) g = None

-- what clap makes of the words, where it takes them
abbrev pub given : List Text → Option Given
given words = given_at (fault_of line words) (given_by (matches_of line words))

-- an error for want of memory says nothing
abbrev pub GivesUp : ErrorKind → Option Given → Type 0
GivesUp OutOfMemory g = Unit {0}
GivesUp _ g = g ≡ None

-- clap reads this rule of the argument
pub record IsRule (rule : Rule) (a : Arg) : Type 0 where
  pub rule_is : rule_of a ≡ rule
  pub is_local : a.global ≡ false
