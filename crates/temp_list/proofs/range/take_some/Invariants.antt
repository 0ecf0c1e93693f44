use Rattle.std.proofs.Common.{◌≡◌, ◌≤◌, ◌+◌, ◌++◌, length, take, drop, vec_len, vec_capacity}
use Rattle.ttree.specs.Held.{rest_of}
use Rattle.temp_list.proofs.range.take_some.Given as goal

-- those of the walk so far, and room for the others
abbrev pub invariant-loop : goal.invariant-loop
invariant-loop l = record {
  taken : l.out.items ≡ l.fn.out.items ++ take l.counter (rest_of l.fn.walk);
  rest : rest_of l.walk ≡ drop l.counter (rest_of l.fn.walk);
  within : l.counter ≤ length (rest_of l.fn.walk);
  count : vec_len l.out ≡ vec_len l.fn.out + l.counter;
  room : vec_len l.fn.out + l.most ≤ vec_capacity l.out;
}
