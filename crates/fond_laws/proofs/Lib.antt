pub mod SameLists
pub mod OneReadingLists
pub mod OneReadingAlike
pub mod OneReadingForms
pub mod OneReadingLeaves
pub mod OneReadingMoved
pub mod OneReadingConditions
pub mod OneReadingEffects
pub mod OneReadingSchemas
pub mod OneReadingSections
pub mod OneReading
pub mod OneTaskNumbers
mod OneTaskPatterns
pub mod OneTaskReads
pub mod OneTaskConditions
pub mod OneTaskChanges
pub mod OneTaskEffects
pub mod OneTask
pub mod OneTaskOfTexts
pub mod SameActs
pub mod SameItems
pub mod SameParts
pub mod SameStates
pub mod SameTexts
pub mod SameTask
pub mod SameBest
pub mod SameGroundConditions
pub mod SameGroundAtoms
pub mod SameGroundEffects
pub mod SameGround
pub mod SameGroundFaults
pub mod SameSites
pub mod SameForms
pub mod SameFiles
mod Refused
mod Accepted
mod Stuck
mod Dueled
pub mod Known
pub mod Reaching
mod GroundMaps
mod LiftedMaps
mod Shortest
