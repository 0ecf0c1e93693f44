-- What a link is: a place, where it leads to a node.
use Rattle.std.specs.Prelude.{Bool, cond, Option, Some, None}
use Rattle.ttree_node.specs.declared.node.HeadFields.{HeadFields}
use Rattle.ttree_node.specs.declared.node.Side.{Side}
use Rattle.ttree_node.specs.declared.node.Side.TheVariants.{Root, Left, Right}
use Rattle.ttree_node.specs.declared.nodes.NodePlace.{NodePlace}

abbrev pub link : Bool → NodePlace → Option NodePlace
link there p = cond there (Some p) None

-- the link to the child on that side
abbrev pub child_link : Side → HeadFields → Option NodePlace
child_link Root h = None
child_link Left h = h.left
child_link Right h = h.right

-- another link to the child on that side
abbrev pub relinked : Side → Option NodePlace → HeadFields → HeadFields
relinked Root q h = h
relinked Left q h = record h { left = q }
relinked Right q h = record h { right = q }
