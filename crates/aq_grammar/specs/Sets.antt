-- With which tokens a rule begins and goes on, and that one token of lookahead is enough to read it (an LL(1) grammar).
use Rattle.std.specs.Prelude.{Bool, true, false, not, ◌&&◌, ◌||◌, List, [], ◌∷◌, ◌++◌, if◌then◌else◌, nat_le}
use Rattle.std.specs.List.{list_all}
use Rattle.aq_base.specs.Names.{Text as Bytes, same_text, is_short}
use Rattle.aq_lex.specs.declared.token.Symbol.{Symbol}
use Rattle.aq_lex.specs.declared.token.Directive.{Directive as DirectiveName}
use Rattle.aq_grammar.specs.Terminals.{Terminal, Keyword, Name, NameOf, NameBut, PlainName, Number, Count, Literal, LiteralInCode, Message, StateCode, Sign, Heading, same_symbol, same_directive, is_name_word}
use Rattle.aq_grammar.specs.Rules.{Nonterminal, Refusal, Rule, Done, Token, Both, Either, Many, Differing, Call, Unless, Limited}

abbrev pub apart_from_keyword : Bytes → Terminal → Bool
apart_from_keyword word (Keyword other) = not (same_text word other)
apart_from_keyword word Name = not (is_name_word word)
apart_from_keyword word (NameOf name) = not (is_name_word word) || not (same_text word name)
apart_from_keyword word (NameBut name) = not (is_name_word word)
apart_from_keyword word PlainName = not (is_name_word word)
apart_from_keyword word Number = true
apart_from_keyword word Count = true
apart_from_keyword word (Heading directive) = true
apart_from_keyword word Literal = true
apart_from_keyword word LiteralInCode = true
apart_from_keyword word Message = true
apart_from_keyword word StateCode = true
apart_from_keyword word (Sign symbol) = true

abbrev pub apart_from_names : Terminal → Bool
apart_from_names (Keyword word) = not (is_name_word word)
apart_from_names Name = false
apart_from_names (NameOf name) = false
apart_from_names (NameBut name) = false
apart_from_names PlainName = false
apart_from_names Number = true
apart_from_names Count = true
apart_from_names (Heading directive) = true
apart_from_names Literal = true
apart_from_names LiteralInCode = true
apart_from_names Message = true
apart_from_names StateCode = true
apart_from_names (Sign symbol) = true

abbrev pub apart_from_name : Bytes → Terminal → Bool
apart_from_name name (Keyword word) = not (is_name_word word) || not (same_text word name)
apart_from_name name Name = false
apart_from_name name (NameOf other) = not (same_text name other)
apart_from_name name (NameBut other) = same_text name other
apart_from_name name PlainName = false
apart_from_name name Number = true
apart_from_name name Count = true
apart_from_name name (Heading directive) = true
apart_from_name name Literal = true
apart_from_name name LiteralInCode = true
apart_from_name name Message = true
apart_from_name name StateCode = true
apart_from_name name (Sign symbol) = true

abbrev pub apart_from_other_names : Bytes → Terminal → Bool
apart_from_other_names other (Keyword word) = not (is_name_word word)
apart_from_other_names other Name = false
apart_from_other_names other (NameOf name) = same_text name other
apart_from_other_names other (NameBut name) = false
apart_from_other_names other PlainName = false
apart_from_other_names other Number = true
apart_from_other_names other Count = true
apart_from_other_names other (Heading directive) = true
apart_from_other_names other Literal = true
apart_from_other_names other LiteralInCode = true
apart_from_other_names other Message = true
apart_from_other_names other StateCode = true
apart_from_other_names other (Sign symbol) = true

abbrev pub apart_from_numbers : Terminal → Bool
apart_from_numbers (Keyword word) = true
apart_from_numbers Name = true
apart_from_numbers (NameOf name) = true
apart_from_numbers (NameBut name) = true
apart_from_numbers PlainName = true
apart_from_numbers Number = false
apart_from_numbers Count = false
apart_from_numbers (Heading directive) = true
apart_from_numbers Literal = true
apart_from_numbers LiteralInCode = true
apart_from_numbers Message = true
apart_from_numbers StateCode = true
apart_from_numbers (Sign symbol) = true

abbrev pub apart_from_texts : Terminal → Bool
apart_from_texts (Keyword word) = true
apart_from_texts Name = true
apart_from_texts (NameOf name) = true
apart_from_texts (NameBut name) = true
apart_from_texts PlainName = true
apart_from_texts Number = true
apart_from_texts Count = true
apart_from_texts (Heading directive) = true
apart_from_texts Literal = false
apart_from_texts LiteralInCode = false
apart_from_texts Message = false
apart_from_texts StateCode = false
apart_from_texts (Sign symbol) = true

abbrev pub apart_from_sign : Symbol → Terminal → Bool
apart_from_sign sign (Keyword word) = true
apart_from_sign sign Name = true
apart_from_sign sign (NameOf name) = true
apart_from_sign sign (NameBut name) = true
apart_from_sign sign PlainName = true
apart_from_sign sign Number = true
apart_from_sign sign Count = true
apart_from_sign sign (Heading directive) = true
apart_from_sign sign Literal = true
apart_from_sign sign LiteralInCode = true
apart_from_sign sign Message = true
apart_from_sign sign StateCode = true
apart_from_sign sign (Sign symbol) = not (same_symbol sign symbol)

abbrev pub apart_from_heading : DirectiveName → Terminal → Bool
apart_from_heading heading (Keyword word) = true
apart_from_heading heading Name = true
apart_from_heading heading (NameOf name) = true
apart_from_heading heading (NameBut name) = true
apart_from_heading heading PlainName = true
apart_from_heading heading Number = true
apart_from_heading heading Count = true
apart_from_heading heading Literal = true
apart_from_heading heading LiteralInCode = true
apart_from_heading heading Message = true
apart_from_heading heading StateCode = true
apart_from_heading heading (Sign symbol) = true
apart_from_heading heading (Heading directive) = not (same_directive heading directive)

-- no token is of both kinds
abbrev pub is_apart : Terminal → Terminal → Bool
is_apart (Keyword word) kind = apart_from_keyword word kind
is_apart Name kind = apart_from_names kind
is_apart (NameOf name) kind = apart_from_name name kind
is_apart (NameBut other) kind = apart_from_other_names other kind
is_apart PlainName kind = apart_from_names kind
is_apart Number kind = apart_from_numbers kind
is_apart Count kind = apart_from_numbers kind
is_apart (Heading directive) kind = apart_from_heading directive kind
is_apart Literal kind = apart_from_texts kind
is_apart LiteralInCode kind = apart_from_texts kind
is_apart Message kind = apart_from_texts kind
is_apart StateCode kind = apart_from_texts kind
is_apart (Sign symbol) kind = apart_from_sign symbol kind

-- no token is of a kind of both lists
abbrev pub are_apart : List Terminal → List Terminal → Bool
are_apart kinds others = list_all (λ kind. list_all (is_apart kind) others) kinds

abbrev pub same_kind : Terminal → Terminal → Bool
same_kind (Keyword word) (Keyword other) = same_text word other
same_kind (Keyword word) kind = false
same_kind Name Name = true
same_kind Name kind = false
same_kind (NameOf name) (NameOf other) = same_text name other
same_kind (NameOf name) kind = false
same_kind (NameBut name) (NameBut other) = same_text name other
same_kind (NameBut name) kind = false
same_kind PlainName PlainName = true
same_kind PlainName kind = false
same_kind Count Count = true
same_kind Count kind = false
same_kind (Heading directive) (Heading other) = same_directive directive other
same_kind (Heading directive) kind = false
same_kind Number Number = true
same_kind Number kind = false
same_kind Literal Literal = true
same_kind Literal kind = false
same_kind LiteralInCode LiteralInCode = true
same_kind LiteralInCode kind = false
same_kind Message Message = true
same_kind Message kind = false
same_kind StateCode StateCode = true
same_kind StateCode kind = false
same_kind (Sign symbol) (Sign other) = same_symbol symbol other
same_kind (Sign symbol) kind = false

abbrev pub same_kinds : List Terminal → List Terminal → Bool
same_kinds [] [] = true
same_kinds [] (other ∷ others) = false
same_kinds (kind ∷ kinds) [] = false
same_kinds (kind ∷ kinds) (other ∷ others) = same_kind kind other && same_kinds kinds others

abbrev pub no_kinds : List Terminal → Bool
no_kinds [] = true
no_kinds (kind ∷ kinds) = false

abbrev pub no_refusals : List Refusal → Bool
no_refusals [] = true
no_refusals (refusal ∷ refusals) = false

-- the kinds of tokens with which refusals begin
abbrev pub heads : List Refusal → List Terminal
heads [] = []
heads (refusal ∷ refusals) = head_of refusal.words (heads refusals)
  where
    head_of : List Terminal → List Terminal → List Terminal
    head_of [] others = others
    head_of (kind ∷ kinds) others = kind ∷ others

abbrev pub have_words : List Refusal → Bool
have_words refusals = list_all (λ refusal. not (no_kinds refusal.words)) refusals

pub record Marks : Type 0 where
  -- the first token
  pub begins : List Terminal
  -- a token behind a whole form, with which the form goes on
  pub goes_on : List Terminal
  -- the first token of what is refused where the form begins
  pub opens : List Terminal
  -- it may be no token at all
  pub is_empty : Bool
  -- it refuses nothing and has no limit
  pub is_plain : Bool
  -- a rule that leads back to itself is called behind a token at the earliest
  pub is_guarded : Bool

abbrev pub of_nothing : Marks
of_nothing = record { begins = []; goes_on = []; opens = []; is_empty = true; is_plain = true; is_guarded = true }

abbrev pub of_token : Terminal → Marks
of_token kind = record { begins = kind ∷ []; goes_on = []; opens = []; is_empty = false; is_plain = true; is_guarded = true }

abbrev pub of_both : Marks → Marks → Marks
of_both a b =
    record {
      begins = a.begins ++ (if a.is_empty then b.begins else []);
      goes_on = (if b.is_empty then a.goes_on ++ b.begins else []) ++ b.goes_on;
      opens = a.opens ++ (if a.is_empty then b.opens else []);
      is_empty = a.is_empty && b.is_empty;
      is_plain = a.is_plain && b.is_plain;
      is_guarded = a.is_guarded && (if a.is_empty then b.is_guarded else true);
    }

-- the first of the two isn't empty, and neither refuses anything where it begins
abbrev pub of_either : Marks → Marks → Marks
of_either a b =
    record {
      begins = a.begins ++ b.begins;
      goes_on = (if b.is_empty then a.begins ++ b.begins else []) ++ a.goes_on ++ b.goes_on;
      opens = [];
      is_empty = b.is_empty;
      is_plain = a.is_plain && b.is_plain;
      is_guarded = a.is_guarded && b.is_guarded;
    }

abbrev pub of_many : List Refusal → Marks → Marks
of_many refusals a =
    record {
      begins = a.begins;
      goes_on = a.begins ++ a.goes_on;
      opens = heads refusals;
      is_empty = true;
      is_plain = a.is_plain && no_refusals refusals;
      is_guarded = a.is_guarded;
    }

-- perhaps a name behind what introduces it
abbrev pub of_other : Marks → Marks
of_other b = of_either (of_both b (of_token Name)) of_nothing

abbrev pub of_unless : List Refusal → Marks → Marks
of_unless refusals a = record a { opens = heads refusals ++ a.opens; is_plain = false }

abbrev pub of_limited : Marks → Marks
of_limited a = record a { is_plain = false }

abbrev pub marks_by : (Nonterminal → Marks) → {A : Type 0} → Rule A → Marks
marks_by calls (Done x) = of_nothing
marks_by calls (Token kind f) = of_token kind
marks_by calls (Both f a b) = of_both (marks_by calls a) (marks_by calls b)
marks_by calls (Either kinds a b) = of_either (marks_by calls a) (marks_by calls b)
marks_by calls (Many kinds refusals f a) = of_many refusals (marks_by calls a)
marks_by calls (Differing f a name kinds b) = of_both (marks_by calls a) (of_other (marks_by calls b))
marks_by calls (Call nonterminal f) = record (calls nonterminal) { is_guarded = false }
marks_by calls (Unless refusals a) = of_unless refusals (marks_by calls a)
marks_by calls (Limited most limit a) = of_limited (marks_by calls a)

-- where the second begins, the first doesn't go on
abbrev pub both_fit : Marks → Marks → Bool
both_fit a b = are_apart a.goes_on (b.begins ++ b.opens)

abbrev pub either_fits : List Terminal → Marks → Marks → Bool
either_fits kinds a b = not a.is_empty && same_kinds kinds a.begins && are_apart a.begins b.begins && no_kinds a.opens && no_kinds b.opens

abbrev pub many_fit : List Terminal → List Refusal → Marks → Bool
many_fit kinds refusals a =
    not a.is_empty && same_kinds kinds a.begins && are_apart a.goes_on (a.begins ++ heads refusals) && no_kinds a.opens && have_words refusals

abbrev pub differing_fits : List Terminal → Marks → Marks → Bool
differing_fits kinds a b =
    not b.is_empty && same_kinds kinds b.begins && both_fit b (of_token Name) && no_kinds b.opens && b.is_plain && both_fit a (of_other b)

-- some token is of the kind: no name is longer than 63 bytes
abbrev pub is_possible : Terminal → Bool
is_possible (Keyword word) = true
is_possible Name = true
is_possible (NameOf name) = is_short name
is_possible (NameBut name) = true
is_possible PlainName = true
is_possible Number = true
is_possible Count = true
is_possible (Heading directive) = true
is_possible Literal = true
is_possible LiteralInCode = true
is_possible Message = true
is_possible StateCode = true
is_possible (Sign symbol) = true

-- one token of lookahead tells how to go on
abbrev pub is_fit_by : (Nonterminal → Marks) → {A : Type 0} → Rule A → Bool
is_fit_by calls (Done x) = true
is_fit_by calls (Token kind f) = is_possible kind
is_fit_by calls (Both f a b) = is_fit_by calls a && is_fit_by calls b && both_fit (marks_by calls a) (marks_by calls b)
is_fit_by calls (Either kinds a b) = is_fit_by calls a && is_fit_by calls b && either_fits kinds (marks_by calls a) (marks_by calls b)
is_fit_by calls (Many kinds refusals f a) = is_fit_by calls a && many_fit kinds refusals (marks_by calls a)
is_fit_by calls (Differing f a name kinds b) = is_fit_by calls a && is_fit_by calls b && differing_fits kinds (marks_by calls a) (marks_by calls b)
is_fit_by calls (Call nonterminal f) = true
is_fit_by calls (Unless refusals a) = is_fit_by calls a && have_words refusals
is_fit_by calls (Limited most limit a) = is_fit_by calls a && (marks_by calls a).is_plain && nat_le 1 most
