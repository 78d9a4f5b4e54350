use Rattle.world.proofs.world.World.agreed_len.Goals as goal

pub returns-clause-reached : goal.returns-clause-reached
returns-clause-reached c =
    rw (← c.self.view_is) (λ nodes config r. c.agreed_len.ensures config r.group r.order.of.earlier r.stands r.order.of.moments r.list r.agreed)

pub returns-clause-exact : goal.returns-clause-exact
returns-clause-exact c =
    rw (← c.self.view_is) (λ nodes config clients r. c.agreed_len.ensures config r.world.group r.exact.of.earlier r.stands.nodes r.exact.of.moments r.exact.agreed r.exact.is_agreed)
