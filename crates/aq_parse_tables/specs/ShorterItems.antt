-- Behind an item of a table fewer tokens are left. It is here since a form says so of its reading.
use Rattle.std.specs.Prelude.{◌≡◌, ◌<◌, List, length}
use Rattle.std.proofs.Common.{refl}
use Rattle.aq_base.specs.declared.table.TableItem.{TableItem}
use Rattle.aq_lex.specs.Lexemes.{PlacedLexeme}
use Rattle.aq_grammar.specs.Reading.{Read}
use Rattle.aq_grammar.specs.Nonterminals.{marks, reads}
use Rattle.aq_grammar.specs.Forms.{name, names, public_name}
use Rattle.aq_grammar.specs.Changes as c
use Rattle.aq_grammar.specs.Tables as t
use Rattle.aq_grammar.proofs.Shorter.{reads_shorten}

pub item_is_shorter : (tokens rest : List PlacedLexeme) (x : TableItem) → reads t.item tokens ≡ Read x rest → length rest < length tokens
unfolding marks t.item t.column_item t.kind t.table_constraint t.bare_table_constraint t.table_primary_key t.table_unique t.table_foreign_key t.timing_without t.perhaps_timing t.given_timing t.deferring t.behind_deferrable t.behind_not_deferrable t.initially_alone t.initially t.target t.matching t.actions t.action t.update_setting t.deletion t.plain_action t.setting public_name name names c.column_list
item_is_shorter = reads_shorten t.item refl refl
