use Rattle.stored_nodes.proofs.own_file.new_node_of.Goals as goal

pub returns : goal.returns
returns c = c.begun_opened-node.ensures
