use Rattle.std.proofs.Common.{◌++◌, ◌∷◌, [], ap, ◌∙◌, refl}
use Rattle.slot_table.proofs.JoinedGroups.{parts_pushed}
use Rattle.slot_table.proofs.storage.TableBuilder.push_parts.Goals as goal

pub returns-clause-added : goal.returns-clause-added
returns-clause-added c =
    (parts_pushed c.self.inside.heads.items c.push_reserved.new.self.items c.self.inside.slots.items
    c.push_reserved-2.new.self.items c.args.self.now c.args.head c.args.slots _
    (record { joined = c.self.view_is; long = c.self.invariant.0; nodes = c.self.invariant.1 })
    c.requires (c.push_reserved.ensures.items
    ∙ ap (λ l. l ++ c.args.head ∷ []) c.make_room.ensures.items) (c.push_reserved-2.ensures.items
    ∙ ap (λ l. l ++ c.args.slots ∷ []) c.make_room-2.ensures.items) refl).joined
