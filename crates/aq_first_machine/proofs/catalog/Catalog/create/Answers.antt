use Rattle.aq_first_machine.proofs.Setups.{create-room, keys-fks}
use Rattle.aq_first_machine.proofs.catalog.Catalog.create.Goals as goal

pub add_table-requires-clause-room : goal.add_table-requires-clause-room
add_table-requires-clause-room c = (create-room c.args.self.now c.args.table.now c.args.items.now c.requires).tables

pub add_table-requires-clause-items : goal.add_table-requires-clause-items
add_table-requires-clause-items c = (create-room c.args.self.now c.args.table.now c.args.items.now c.requires).cols

pub add_keys-requires : goal.add_keys-requires
add_keys-requires c = (create-room c.args.self.now c.args.table.now c.args.items.now c.requires).cols

pub add_references-requires-clause-items : goal.add_references-requires-clause-items
add_references-requires-clause-items c = (create-room c.args.self.now c.args.table.now c.args.items.now c.requires).cols

pub add_references-requires-clause-room : goal.add_references-requires-clause-room
add_references-requires-clause-room c =
    rw (keys-fks c.new-number.result c.args.table.now c.args.items.now c.args.self.now c.add_table.new.self c.add_keys.new.self c.in_ok-add_table.ensures c.in_ok-add_keys.ensures.keys)
    (create-room c.args.self.now c.args.table.now c.args.items.now c.requires).fks
