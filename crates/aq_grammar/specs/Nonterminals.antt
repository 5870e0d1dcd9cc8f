-- The rules that lead back to themselves, and the tokens with which they begin and go on.
use Rattle.std.specs.Prelude.{true, false, List, [], ◌∷◌, codes}
use Rattle.aq_lex.specs.declared.token.Symbol.TheVariants.{OpenParen, CloseParen, Semicolon, Dot}
use Rattle.aq_grammar.specs.Terminals.{Terminal, Keyword, Name, NameOf, NameBut, Number, Literal, Sign}
use Rattle.aq_grammar.specs.Rules.{Nonterminal, ValueOf, Rule, Expression, Block, ColumnConstraints, ReferenceEnd}
use Rattle.aq_grammar.specs.Rules.{Form, Bar, SpellsBy, BarsBy}
use Rattle.aq_grammar.specs.Reading.{Reader, read_by}
use Rattle.aq_grammar.specs.Calls.{Called, BarsCalled, called}
use Rattle.aq_grammar.specs.Sets.{Marks, marks_by}
use Rattle.aq_grammar.specs.Expressions.{literal_in, expression}
use Rattle.aq_grammar.specs.Bodies.{block}
use Rattle.aq_grammar.specs.Tables.{column_constraints, constraint_begins, reference_end}

unfoldable pub rules : (nonterminal : Nonterminal) → Rule (ValueOf nonterminal)
rules (Expression scope) = expression scope
rules (Block room) = block room
rules (ColumnConstraints has_default) = column_constraints has_default
rules (ReferenceEnd has_default) = reference_end has_default

-- a token that may come behind a constraint of a column and go on with it
abbrev pub behind_constraint : List Terminal
behind_constraint =
    Keyword (codes "not") ∷ Keyword (codes "default") ∷ Keyword (codes "constraint") ∷ Keyword (codes "primary") ∷ Keyword (codes "unique")
    ∷ Keyword (codes "references") ∷ Sign Dot ∷ Sign OpenParen ∷ Keyword (codes "match") ∷ Keyword (codes "on") ∷ Keyword (codes "deferrable")
    ∷ Keyword (codes "initially") ∷ []

abbrev pub refused_behind_constraint : List Terminal
refused_behind_constraint = Keyword (codes "not") ∷ Keyword (codes "check") ∷ Keyword (codes "exclude") ∷ []

-- what rules need to know of a rule that they call
abbrev pub called_marks : Nonterminal → Marks
called_marks (Expression scope) = record { begins = []; goes_on = []; opens = []; is_empty = false; is_plain = true; is_guarded = true }
called_marks (Block room) = record { begins = []; goes_on = []; opens = []; is_empty = true; is_plain = false; is_guarded = true }
called_marks (ColumnConstraints has_default) =
    record {
      begins = constraint_begins has_default;
      goes_on = behind_constraint;
      opens = refused_behind_constraint;
      is_empty = true;
      is_plain = false;
      is_guarded = true;
    }
called_marks (ReferenceEnd has_default) =
    record { begins = []; goes_on = behind_constraint; opens = refused_behind_constraint; is_empty = true; is_plain = false; is_guarded = true }

unfoldable pub marks : Nonterminal → Marks
marks nonterminal = marks_by called_marks (rules nonterminal)

-- a token that may end an expression
abbrev pub expression_ends : Terminal → List Terminal
expression_ends literal =
    Number ∷ literal ∷ Keyword (codes "null") ∷ Keyword (codes "true") ∷ Keyword (codes "false") ∷ Sign CloseParen ∷ Keyword (codes "tg_op") ∷ Name
    ∷ NameOf (codes "public") ∷ NameBut (codes "public") ∷ []

-- a token that may end a constraint of a column, or one of those behind it
abbrev pub constraint_ends : List Terminal
constraint_ends =
    Keyword (codes "null") ∷ Keyword (codes "true") ∷ Keyword (codes "false") ∷ Literal ∷ Number ∷ Keyword (codes "key") ∷ Keyword (codes "unique") ∷ Name
    ∷ NameOf (codes "public") ∷ NameBut (codes "public") ∷ Sign CloseParen ∷ Keyword (codes "simple") ∷ Keyword (codes "full") ∷ Keyword (codes "action")
    ∷ Keyword (codes "restrict") ∷ Keyword (codes "cascade") ∷ Keyword (codes "default") ∷ Keyword (codes "deferrable") ∷ Keyword (codes "immediate")
    ∷ Keyword (codes "deferred") ∷ []

-- a token that may end what a rule spells that leads back to itself
unfoldable pub ends : Nonterminal → List Terminal
ends (Expression scope) = expression_ends (literal_in scope)
ends (Block room) = Sign Semicolon ∷ []
ends (ColumnConstraints has_default) = constraint_ends
ends (ReferenceEnd has_default) = constraint_ends

-- what is read by a rule that leads back to itself
unfoldable pub reads_called : (nonterminal : Nonterminal) → Reader (ValueOf nonterminal)
reads_called nonterminal tokens = called rules nonterminal tokens

-- what is read by a rule
abbrev pub reads : {A : Type 0} → Rule A → Reader A
reads rule tokens = read_by reads_called rule tokens

-- the tokens are the tree by the rule; refusals and limits are left aside
abbrev pub Spells : {A : Type 0} → Rule A → Form A
Spells rule = SpellsBy (Called rules) rule

-- the tokens from a place on are refused by the rule with a fault, when these tokens stand before it
abbrev pub Bars : {A : Type 0} → Rule A → Bar
Bars rule = BarsBy (Called rules) (BarsCalled rules) rule
