-- With which tokens a whole form may end, and that a subquery stands nowhere in it. A subquery begins with a `(` directly followed by SELECT.
use Rattle.std.specs.Prelude.{◌≡◌, ℕ, Bool, true, not, ◌&&◌, List, [], ◌∷◌, ◌++◌, codes, if◌then◌else◌}
use Rattle.std.specs.List.{list_any}
use Rattle.aq_lex.specs.declared.token.Symbol.TheVariants.{OpenParen}
use Rattle.aq_lex.specs.Lexemes.{PlacedLexeme, Lexeme, Word, Symbol as Mark}
use Rattle.aq_grammar.specs.Terminals.{Terminal, Name, is_of_kind}
use Rattle.aq_grammar.specs.Rules.{Nonterminal, Rule, Done, Token, Both, Either, Many, Differing, Call, Unless, Limited}
use Rattle.aq_grammar.specs.Sets.{Marks, marks_by, of_other}

abbrev pub open_paren : Lexeme
open_paren = Mark OpenParen

abbrev pub select_word : Lexeme
select_word = Word (codes "select")

-- among the tokens a `(` is directly followed by the word SELECT
abbrev pub HasSubquery : List PlacedLexeme → Type 0
HasSubquery u =
    (before : List PlacedLexeme) × (behind : List PlacedLexeme) × (line1 : ℕ) × (line2 : ℕ)
    × (u ≡ before ++ record { line = line1; lexeme = open_paren } ∷ record { line = line2; lexeme = select_word } ∷ behind)

-- the ends of two forms, one after the other: those of the first too, where the second may be no token at all
abbrev pub ends_of_both : List Terminal → List Terminal → Bool → List Terminal
ends_of_both first second second_is_empty = second ++ (if second_is_empty then first else [])

-- the kinds of tokens with which a whole form of the rule may end, where the rules that lead back to themselves have these ends and marks
abbrev pub ends_by : (Nonterminal → List Terminal) → (Nonterminal → Marks) → {A : Type 0} → Rule A → List Terminal
ends_by ends marks (Done x) = []
ends_by ends marks (Token kind f) = kind ∷ []
ends_by ends marks (Both f a b) = ends_of_both (ends_by ends marks a) (ends_by ends marks b) (marks_by marks b).is_empty
ends_by ends marks (Either kinds a b) = ends_by ends marks a ++ ends_by ends marks b
ends_by ends marks (Many kinds refusals f a) = ends_by ends marks a
ends_by ends marks (Differing f a name kinds b) = Name ∷ ends_by ends marks a
ends_by ends marks (Call nonterminal f) = ends nonterminal
ends_by ends marks (Unless refusals a) = ends_by ends marks a
ends_by ends marks (Limited most limit a) = ends_by ends marks a

-- the lexeme is of one of the kinds
abbrev pub may_be : List Terminal → Lexeme → Bool
may_be kinds lexeme = list_any (λ kind. is_of_kind kind lexeme) kinds

-- behind a form with these ends, one that begins so makes no subquery
abbrev pub opens_none : List Terminal → List Terminal → Bool
opens_none ends begins = not (may_be ends open_paren && may_be begins select_word)

-- no two neighbours in the rule make a subquery
abbrev pub has_no_subquery_by : (Nonterminal → List Terminal) → (Nonterminal → Marks) → {A : Type 0} → Rule A → Bool
has_no_subquery_by ends marks (Done x) = true
has_no_subquery_by ends marks (Token kind f) = true
has_no_subquery_by ends marks (Both f a b) =
    has_no_subquery_by ends marks a && has_no_subquery_by ends marks b && opens_none (ends_by ends marks a) (marks_by marks b).begins
has_no_subquery_by ends marks (Either kinds a b) = has_no_subquery_by ends marks a && has_no_subquery_by ends marks b
has_no_subquery_by ends marks (Many kinds refusals f a) = has_no_subquery_by ends marks a && opens_none (ends_by ends marks a) (marks_by marks a).begins
has_no_subquery_by ends marks (Differing f a name kinds b) =
    has_no_subquery_by ends marks a && has_no_subquery_by ends marks b && opens_none (ends_by ends marks a) (of_other (marks_by marks b)).begins
    && opens_none (ends_by ends marks b) (Name ∷ [])
has_no_subquery_by ends marks (Call nonterminal f) = true
has_no_subquery_by ends marks (Unless refusals a) = has_no_subquery_by ends marks a
has_no_subquery_by ends marks (Limited most limit a) = has_no_subquery_by ends marks a
