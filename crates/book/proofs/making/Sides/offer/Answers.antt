use Rattle.book.proofs.making.Sides.offer.Goals as goal

pub returns-in-Enter : goal.returns-in-Enter
returns-in-Enter g c = rw c.in-Enter.is c.offer_enter.ensures

pub returns-in-Join : goal.returns-in-Join
returns-in-Join g c = rw c.in-Join.is (c.offer_join.ensures (g.S.Profile.rules c.args.self.now.station.now) (g.M.Profile.rules c.args.self.now.manual.now) c.args.self.now.start)
