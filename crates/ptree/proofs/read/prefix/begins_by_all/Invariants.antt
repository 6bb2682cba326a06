use Rattle.std.proofs.Common.{◌-◌, ◌≡◌, ◌≤◌, length, take}
use Rattle.ptree.proofs.read.prefix.begins_by_all.Given as goal

-- the bytes so far are the prefix's
abbrev pub invariant-loop-place : goal.invariant-loop-place
invariant-loop-place l = (l.place ≤ length l.prefix) × (take l.place l.text ≡ take l.place l.prefix)

abbrev pub decreases-loop-place : goal.decreases-loop-place
decreases-loop-place l = length l.prefix - l.place

abbrev pub invariant-loop-place-2 : goal.invariant-loop-place-2
invariant-loop-place-2 l = (l.place ≤ length l.prefix) × (take l.place l.text ≡ take l.place l.prefix)

abbrev pub decreases-loop-place-2 : goal.decreases-loop-place-2
decreases-loop-place-2 l = length l.prefix - l.place
