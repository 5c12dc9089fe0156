-- Which lines close a change, and which count.
use Rattle.std.specs.Prelude.{◌≡◌, ◌⊎◌, Bool, true, false}
use Rattle.realm_audit.specs.declared.item.Item.{Item}
use Rattle.realm_audit.specs.declared.item.Item.TheVariants.{Point, Unpoint, Original, Change, Remove, Segment, End}
use Rattle.realm_audit.specs.declared.item.Item.TheVariants as items

-- the line ends what was drawn before it: it begins a change, or ends the certificate
abbrev pub IsClosing : Item → Type 0
IsClosing item = (item ≡ Change) ⊎ (item ≡ End)

-- whether the line begins a change
abbrev pub is_change : Item → Bool
is_change (Point p) = false
is_change (Unpoint p) = false
is_change (Original id chain) = false
is_change Change = true
is_change (Remove id) = false
is_change (Segment id p q) = false
is_change (items.Step step) = false
is_change End = false

-- whether the line is a step
abbrev pub is_step : Item → Bool
is_step (Point p) = false
is_step (Unpoint p) = false
is_step (Original id chain) = false
is_step Change = false
is_step (Remove id) = false
is_step (Segment id p q) = false
is_step (items.Step step) = true
is_step End = false
