use Rattle.std.proofs.Common.{◌≡◌}
use Rattle.bindings.specs.Meanings.{lookups}
use Rattle.bindings.specs.Texts.{term}
use Rattle.bindings.specs.Trails.{TermIn, meaning_at, trail}
use Rattle.machine.proofs.view.View.shape.Given as goal

abbrev pub invariant-looking : goal.invariant-looking
invariant-looking l =
    TermIn l.self.text.now.bytes l.self.used l.at
    × (meaning_at l.self.text.now.bytes l.self.cells.now l.self.newest l.at ≡ meaning_at l.self.text.now.bytes l.self.cells.now l.self.newest l.initial.at)

abbrev pub decreases-looking : goal.decreases-looking
decreases-looking l = lookups (trail l.self.text.now.bytes l.self.cells.now l.self.newest) (term l.self.text.now.bytes l.at.place l.at.level)
