use Rattle.std.proofs.Common.{◌≡◌, ◌++◌, take, map, codes}
use Rattle.std.specs.List.{join_with_byte}
use Rattle.cpuprofile.proofs.write.put_list.Given as goal

abbrev pub invariant-loop-at : goal.invariant-loop-at
invariant-loop-at g l = l.out.items ≡ l.fn.out.items ++ (codes "[" ++ join_with_byte 44 (map g.T.ListItem.text (take l.at l.items)))
