-- `read_list` calls `read_item` at the same place, which calls `read_list` further on, so the measure is twice what is left, and one more for `read_list`.
use Rattle.std.proofs.Common.{◌+◌, length, ◌-◌}
use Rattle.dhcp_strict.proofs.+read_item_read_list.Given as goal

abbrev pub decreases-read_item : goal.decreases-read_item
decreases-read_item l = (length l.frame.now - l.at) + (length l.frame.now - l.at)

abbrev pub decreases-read_list : goal.decreases-read_list
decreases-read_list l = (length l.frame.now - l.at) + (length l.frame.now - l.at) + 1
