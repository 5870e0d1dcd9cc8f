-- The order in which the faults of a statement of the setup are tried, which is this program's own: line by line, and within a line in the order
-- of its codes, and then in that of the text.
use Rattle.std.specs.Prelude.{List, [], ◌++◌}
use Rattle.aq_base.specs.declared.fault.SqlFault.{SqlFault}

pub record SetupFaults : Type 0 where
  -- 54000 and 42622: limits
  pub limits : List SqlFault
  -- 42P07, 42723 and 42710: what exists already
  pub exists : List SqlFault
  -- 42701 and 42P16: a column twice, a second primary key
  pub twice : List SqlFault
  -- 42P01, 42703 and 42883: what is not there
  pub missing : List SqlFault
  -- 42830: the columns of foreign keys
  pub referred : List SqlFault
  -- 42704: no primary key to refer to
  pub unkeyed : List SqlFault
  -- 42P10: a column behind ON DELETE that is none of the foreign key
  pub outside : List SqlFault
  -- 42804: kinds that differ
  pub kinds : List SqlFault
  -- 0A000: transition tables
  pub transitions : List SqlFault
  -- 42P17: forms of triggers
  pub forms : List SqlFault
  -- 42939: the names of triggers
  pub reserved : List SqlFault
  -- those of WHEN and of a function's statements, with their own order
  pub bodies : List SqlFault

abbrev pub faultless : SetupFaults
faultless =
    record { limits = []; exists = []; twice = []; missing = []; referred = []; unkeyed = []; outside = []; kinds = []; transitions = []; forms = []; reserved = []; bodies = [] }

abbrev pub in_order : SetupFaults → List SqlFault
in_order f =
    f.limits
    ++ (f.exists ++ (f.twice ++ (f.missing ++ (f.referred ++ (f.unkeyed ++ (f.outside ++ (f.kinds ++ (f.transitions ++ (f.forms ++ (f.reserved ++ f.bodies))))))))))
