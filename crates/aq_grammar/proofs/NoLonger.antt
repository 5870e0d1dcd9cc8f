-- Reading leaves no more tokens than there were.
use Rattle.std.proofs.Common.{◌≡◌, ◌≤◌, true, List, length, subst}
use Rattle.aq_lex.specs.Lexemes.{PlacedLexeme}
use Rattle.aq_grammar.specs.Rules.{Nonterminal, ValueOf, Rule, Done, Token, Both, Either, Many, Differing, Call, Unless, Limited, refused}
use Rattle.aq_grammar.specs.Reading.{Read, Reader, read_by, read_each, read_token, read_other}
use Rattle.aq_grammar.specs.Nonterminals.{rules, marks, reads_called, reads}
use Rattle.aq_grammar.proofs.Fit.{rules_fit}
use Rattle.aq_grammar.proofs.Fuel.{Shortens, shortens_at_least, shortens_if_any, token_shortens, both_shortens, either_shortens, stop_or_shortens, nothing_shortens, each_shortens, other_shortens, limited_shortens, called_shortens, called_shortens_by}

-- reading never lengthens the tokens, whether a rule fits or not
shortens_any :
    (readers : (n : Nonterminal) → Reader (ValueOf n)) → ((n : Nonterminal) (tokens : List PlacedLexeme) → Shortens true (length tokens) (readers n tokens))
    → {A : Type 0} → (r : Rule A) (tokens : List PlacedLexeme) → Shortens true (length tokens) (read_by readers r tokens)
shortens_any readers calls (Done x) tokens = nothing_shortens x tokens
shortens_any readers calls (Token kind f) tokens = shortens_at_least true (length tokens) (read_token kind f tokens) (token_shortens kind f tokens)
shortens_any readers calls (Both f a b) tokens =
    both_shortens f true true (read_by readers a) (λ x. read_by readers b) tokens (shortens_any readers calls a tokens) (λ x. shortens_any readers calls b)
shortens_any readers calls (Either kinds a b) tokens =
    either_shortens kinds true (read_by readers a) (read_by readers b) tokens (shortens_any readers calls a tokens) (shortens_any readers calls b tokens)
shortens_any readers calls (Many kinds refusals f a) tokens =
    called_shortens true (length tokens) f (read_each (length tokens) kinds refusals (read_by readers a) tokens)
    (each_shortens (length tokens) kinds refusals (read_by readers a) (shortens_any readers calls a) tokens)
shortens_any readers calls (Differing f a name kinds b) tokens =
    both_shortens f true true (read_by readers a) (λ x. read_other kinds (read_by readers b) (name x)) tokens (shortens_any readers calls a tokens)
    (λ x. other_shortens kinds (read_by readers b) (name x) (shortens_any readers calls b))
shortens_any readers calls (Call n f) tokens = called_shortens true (length tokens) f (readers n tokens) (calls n tokens)
shortens_any readers calls (Unless refusals a) tokens =
    stop_or_shortens true (refused refusals tokens) tokens (read_by readers a tokens) (shortens_any readers calls a tokens)
shortens_any readers calls (Limited most fault a) tokens = limited_shortens true most fault (read_by readers a) (shortens_any readers calls a) tokens

called_any : (n : Nonterminal) (tokens : List PlacedLexeme) → Shortens true (length tokens) (reads_called n tokens)
unfolding reads_called
called_any n tokens = shortens_if_any (marks n).is_empty (length tokens) (reads_called n tokens) (called_shortens_by rules marks rules_fit n tokens)

pub reads_any : {A : Type 0} (r : Rule A) (tokens : List PlacedLexeme) → Shortens true (length tokens) (reads r tokens)
reads_any r tokens = shortens_any reads_called called_any r tokens

-- a tree is read, and no more tokens are left than there were
pub no_longer : {A : Type 0} (r : Rule A) (tokens rest : List PlacedLexeme) (x : A) → reads r tokens ≡ Read x rest → length rest ≤ length tokens
no_longer r tokens rest x read = (subst (λ outcome. Shortens true (length tokens) outcome) read (reads_any r tokens)).0
