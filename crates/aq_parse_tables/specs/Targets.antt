-- A reference without its timing, as the grammar has it.
use Rattle.aq_grammar.specs.Tables.{Target as Spelled}
use Rattle.aq_parse_tables.specs.declared.references.Untimed.{Untimed}

abbrev pub shown : Untimed → Spelled
shown target =
    record {
      table = target.table;
      columns = target.columns;
      matching = target.matching;
      actions = record { on_delete = target.on_delete; set_columns = target.set_columns; on_update = target.on_update };
    }
