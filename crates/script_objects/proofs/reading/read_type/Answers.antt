use Rattle.script_objects.proofs.Common.{rules, nat_cmp, length_key}
use Rattle.script_objects.proofs.Entries.{members_same}
use Rattle.script_objects.proofs.Sorting.{sorted-by, stable-by}
use Rattle.script_objects.proofs.reading.read_type.Goals as goal

-- they are those of its entries, sorted
pub returns-clause-rules : goal.returns-clause-rules
returns-clause-rules c = rw c.of.ensures.rules record {
  read = c.in_ok-rules.rules.items;
  each = c.in_ok-rules.ensures.read;
  table = search (rules, members_same, c.in_ok-rules.ensures.entries, c.in-Some.ensures);
  longest_first = sorted-by length_key (λ rule other. nat_cmp other.0 rule.0) c.sort_by_key.new.self.items c.in-Ok-sort_by_key.ensures.sorted (λ given result next called. search rules);
  in_order = stable-by length_key (λ rule other. nat_cmp other.0 rule.0) c.in_ok-rules.rules.items c.sort_by_key.new.self.items c.in-Ok-sort_by_key.ensures.stable (λ given result next called. search rules);
}
