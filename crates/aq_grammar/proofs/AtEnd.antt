-- Nothing is refused where no token comes.
use Rattle.std.proofs.Common.{◌≡◌, ℕ, zero, suc, true, List, [], ◌∷◌, inl, inr}
use Rattle.aq_base.specs.declared.fault.SqlFault.{SqlFault}
use Rattle.aq_lex.specs.Lexemes.{PlacedLexeme}
use Rattle.aq_grammar.specs.Terminals.{begins}
use Rattle.aq_grammar.specs.Rules.{Nonterminal, ValueOf, Refusal, Rule, Done, Token, Both, Either, Many, Differing, Call, Unless, Limited, Form, Bar, IsRefused, BarsNext, SpellsBy, BarsBy}
use Rattle.aq_grammar.specs.Sets.{Marks, heads, have_words, is_fit_by}
use Rattle.aq_grammar.specs.Calls.{Rules, AreFit, Called, BarredWithin, BarsCalled}
use Rattle.aq_grammar.proofs.Keeping.{refusals_open, fit_both, fit_either, fit_many, fit_differing, fit_unless, fit_limited}

abbrev pub IsFreeAtEnd : Bar → Type 0
IsFreeAtEnd bars = (u : List PlacedLexeme) (fault : SqlFault) → bars u [] fault → ⊥

pub refusals_at_end : (refusals : List Refusal) (fault : SqlFault) → have_words refusals ≡ true → IsRefused refusals [] fault → ⊥
refusals_at_end refusals fault worded bar = let begun : begins (heads refusals) [] ≡ true = refusals_open refusals [] fault worded bar in cc

next_at_end : {A : Type 0} (most : ℕ) (limit : SqlFault) (Spelled : Form A) → IsFreeAtEnd (BarsNext most limit Spelled)
next_at_end most limit Spelled [] fault bar = bar
next_at_end most limit Spelled (first ∷ others) fault bar = bar

module _ (calls : (n : Nonterminal) → Form (ValueOf n)) (bars : Nonterminal → Bar) (marks : Nonterminal → Marks) (free : (n : Nonterminal) → IsFreeAtEnd (bars n)) where
  pub free_at_end_by : {A : Type 0} (r : Rule A) → is_fit_by marks r ≡ true → IsFreeAtEnd (BarsBy calls bars r)
  free_at_end_by (Done x) fit u fault bar = bar
  free_at_end_by (Token kind f) fit u fault bar = bar
  free_at_end_by (Both f a b) fit u fault (inl bar) = free_at_end_by a (fit_both marks f a b fit).0 u fault bar
  free_at_end_by (Both f a b) fit u fault (inr bar) = free_at_end_by b (fit_both marks f a b fit).1 bar.1 fault bar.5
  free_at_end_by (Either kinds a b) fit u fault (inl bar) = free_at_end_by a (fit_either marks kinds a b fit).0 u fault bar
  free_at_end_by (Either kinds a b) fit u fault (inr bar) = free_at_end_by b (fit_either marks kinds a b fit).1 u fault bar
  free_at_end_by (Many kinds refusals f a) fit u fault (front, behind, xs, s, e, inl bar) = free_at_end_by a (fit_many marks kinds refusals f a fit).0 behind fault bar
  free_at_end_by (Many kinds refusals f a) fit u fault (front, behind, xs, s, e, inr bar) = refusals_at_end refusals fault (fit_many marks kinds refusals f a fit).1.worded bar.1
  free_at_end_by (Differing f a name kinds b) fit u fault (inl bar) = free_at_end_by a (fit_differing marks f a name kinds b fit).0 u fault bar
  free_at_end_by (Differing f a name kinds b) fit u fault (inr bar) = free_at_end_by b (fit_differing marks f a name kinds b fit).1 bar.1 fault bar.5
  free_at_end_by (Call nonterminal f) fit u fault bar = free nonterminal u fault bar
  free_at_end_by (Unless refusals a) fit u fault (inl bar) = refusals_at_end refusals fault (fit_unless marks refusals a fit).1 bar.1
  free_at_end_by (Unless refusals a) fit u fault (inr bar) = free_at_end_by a (fit_unless marks refusals a fit).0 u fault bar
  free_at_end_by (Limited most limit a) fit u fault (inl bar) = next_at_end most limit (SpellsBy calls a) u fault bar
  free_at_end_by (Limited most limit a) fit u fault (inr bar) = free_at_end_by a (fit_limited marks most limit a fit).0 u fault bar

module _ (rules : Rules) (marks : Nonterminal → Marks) (fits : AreFit rules marks) where
  within_free_at_end : (most : ℕ) (n : Nonterminal) → IsFreeAtEnd (BarredWithin rules most n)
  within_free_at_end zero n u fault bar = bar
  within_free_at_end (suc most) n u fault bar = free_at_end_by (Called rules) (BarredWithin rules most) marks (within_free_at_end most) (rules n) (fits.fit n) u fault bar

  called_free_at_end : (n : Nonterminal) → IsFreeAtEnd (BarsCalled rules n)
  called_free_at_end n u fault (most, bar) = within_free_at_end most n u fault bar

  -- by no fit rule over the nonterminals
  pub free_at_end : {A : Type 0} (r : Rule A) → is_fit_by marks r ≡ true → IsFreeAtEnd (BarsBy (Called rules) (BarsCalled rules) r)
  free_at_end r fit = free_at_end_by (Called rules) (BarsCalled rules) marks called_free_at_end r fit
