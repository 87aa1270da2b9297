-- The acts of transitions, as their parts are held.
use Rattle.lang_specs.specs.Trees as trees
use Rattle.lang_trees.specs.declared.trees.ActParts.{ActParts}
use Rattle.lang_trees.specs.declared.trees.ActParts.TheVariants.{Set, Within, Free}

-- the act of these parts
abbrev pub act_of : ActParts → trees.Act
act_of (Set var value) = trees.Set var value
act_of (Within var lo hi) = trees.Within var lo hi
act_of (Free var) = trees.Free var

-- the parts of an act
abbrev pub parts_of : trees.Act → ActParts
parts_of (trees.Set var value) = Set var value
parts_of (trees.Within var lo hi) = Within var lo hi
parts_of (trees.Free var) = Free var
