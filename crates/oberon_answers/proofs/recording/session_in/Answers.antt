use Rattle.oberon_answers.proofs.recording.session_in.Goals as goal

pub returns-in-WithoutDisk-clause-ok : goal.returns-in-WithoutDisk-clause-ok
returns-in-WithoutDisk-clause-ok c = rw c.in-WithoutDisk.is c.read_session.ensures.ok

pub returns-in-WithoutDisk-clause-err : goal.returns-in-WithoutDisk-clause-err
returns-in-WithoutDisk-clause-err c = rw c.in-WithoutDisk.is c.read_session.ensures.err

pub returns-in-WithDisk-clause-ok : goal.returns-in-WithDisk-clause-ok
returns-in-WithDisk-clause-ok c = rw c.in-WithDisk.is c.read_session_with_disk.ensures.ok

pub returns-in-WithDisk-clause-err : goal.returns-in-WithDisk-clause-err
returns-in-WithDisk-clause-err c = rw c.in-WithDisk.is c.read_session_with_disk.ensures.err
