use Rattle.transfer.proofs.Answer.number.Goals as goal

pub returns-in-BadBuffers : goal.returns-in-BadBuffers
returns-in-BadBuffers c = rw c.in-BadBuffers.is

pub returns-in-BadSettings : goal.returns-in-BadSettings
returns-in-BadSettings c = rw c.in-BadSettings.is

pub returns-in-BadState : goal.returns-in-BadState
returns-in-BadState c = rw c.in-BadState.is

pub returns-in-NotBlock : goal.returns-in-NotBlock
returns-in-NotBlock c = rw c.in-NotBlock.is

pub returns-in-Container : goal.returns-in-Container
returns-in-Container c = rw c.in-Container.is

pub returns-in-NoFamily : goal.returns-in-NoFamily
returns-in-NoFamily c = rw c.in-NoFamily.is

pub returns-in-NoPlace : goal.returns-in-NoPlace
returns-in-NoPlace c = rw c.in-NoPlace.is

pub returns-in-BadPayload : goal.returns-in-BadPayload
returns-in-BadPayload c = rw c.in-BadPayload.is

pub returns-in-BadNumbers : goal.returns-in-BadNumbers
returns-in-BadNumbers c = rw c.in-BadNumbers.is

pub returns-in-BadAddress : goal.returns-in-BadAddress
returns-in-BadAddress c = rw c.in-BadAddress.is

pub returns-in-Finished : goal.returns-in-Finished
returns-in-Finished c = rw c.in-Finished.is

pub returns-in-Again : goal.returns-in-Again
returns-in-Again c = rw c.in-Again.is

pub returns-in-Written : goal.returns-in-Written
returns-in-Written c = rw c.in-Written.is

pub returns-in-Completed : goal.returns-in-Completed
returns-in-Completed c = rw c.in-Completed.is

pub returns-in-Noted : goal.returns-in-Noted
returns-in-Noted c = rw c.in-Noted.is

pub returns-in-Kept : goal.returns-in-Kept
returns-in-Kept c = rw c.in-Kept.is
